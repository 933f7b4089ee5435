-- The numbers given back, by name: done, and those of the refusals that src/lib.rt names.
use Rattle.std.specs.Prelude.{ℕ}

abbrev pub DONE : ℕ
DONE = 0

abbrev pub BAD_KEY_LENGTH : ℕ
BAD_KEY_LENGTH = 1

abbrev pub BAD_BLOCK_LENGTH : ℕ
BAD_BLOCK_LENGTH = 2

abbrev pub BAD_OUTPUT_LENGTH : ℕ
BAD_OUTPUT_LENGTH = 3

abbrev pub BAD_WORD_COUNT : ℕ
BAD_WORD_COUNT = 4

abbrev pub BAD_LANE : ℕ
BAD_LANE = 5

abbrev pub LANE_NOT_IDLE : ℕ
LANE_NOT_IDLE = 6

abbrev pub LANE_NOT_FINISHED : ℕ
LANE_NOT_FINISHED = 7

abbrev pub TOO_MANY_TURNS : ℕ
TOO_MANY_TURNS = 8

abbrev pub BAD_DIRECTION : ℕ
BAD_DIRECTION = 9

abbrev pub BAD_BENCH : ℕ
BAD_BENCH = 10

-- the same number, of a state that a host keeps
abbrev pub BAD_STATE : ℕ
BAD_STATE = 10

abbrev pub NOT_THE_OWNER : ℕ
NOT_THE_OWNER = 11

abbrev pub TOO_FEW_COUNTERS : ℕ
TOO_FEW_COUNTERS = 12

abbrev pub BAD_ORDER : ℕ
BAD_ORDER = 13

abbrev pub BAD_BUNDLE_LENGTH : ℕ
BAD_BUNDLE_LENGTH = 20

abbrev pub BAD_TAG : ℕ
BAD_TAG = 21

abbrev pub MALFORMED : ℕ
MALFORMED = 22

abbrev pub MUST_KNOW : ℕ
MUST_KNOW = 23

abbrev pub BAD_LIST : ℕ
BAD_LIST = 24

abbrev pub SHORT_OUTPUT : ℕ
SHORT_OUTPUT = 25
