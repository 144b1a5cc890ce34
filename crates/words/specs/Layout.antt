-- The state as words that the host lends: what each word holds, and which words set-up and steps make.
-- DEV-13: "Nothing else of the device's state may grow with q". The number of words is a constant; what a queue's size asks for is chain memory,
-- which the host lends when it enables the queue. The regions come last, so that no other word's place hangs on how many there may be.
--    0 how far set-up has come: 0 nothing, 1 memory, 2 disk, 3 enabled
--    1 length of guest memory    2 number of regions
--    3 first byte of the disk    4 sectors    5 read-only    6 length of the backing slice    7 to 9 the identity
--   10 queue size   11 to 13 slice offsets of descriptors, available and used ring   14 chain words lent   15 staging bytes lent
--   16 taken   17 answered   18 to 27 the phase: its number, then the request at hand, then four words of its own
--   28 the number of descriptors of the last complete chain
--   29 to 124 the regions, three words each
use Rattle.std.specs.Prelude.{ℕ, ◌+◌, ◌*◌, ◌^◌, Bool, true, List, [], ◌∷◌, ◌++◌, leb, ltb, eqb, get_or}
use Rattle.model.specs.Pick.{pick, both}
use Rattle.model.specs.Bytes.{put, part}
use Rattle.model.specs.Memory.{regions, regions_max, sound}
use Rattle.model.specs.Ring.{queue_size_ok}
use Rattle.model.specs.Request.{disk_code}
use Rattle.model.specs.Sane.{sane}
use Rattle.model.specs.declared.Walk.{Walk}
use Rattle.model.specs.declared.Place.{Place}
use Rattle.model.specs.declared.Job.{Job}
use Rattle.model.specs.declared.Job.TheVariants.{Failed, Unsupported, Done, Read, Write, Identity}
use Rattle.model.specs.declared.Phase.{Phase}
use Rattle.model.specs.declared.Phase.TheVariants.{Poll, Entry, Chain, Header, Payload, Answer, Publish, Broken}
use Rattle.device.specs.declared.Config.{Config}
use Rattle.words.specs.declared.Row.{Row}

abbrev pub level_word : ℕ
level_word = 0

abbrev pub mem_len_word : ℕ
mem_len_word = 1

abbrev pub regions_word : ℕ
regions_word = 2

abbrev pub start_word : ℕ
start_word = 3

abbrev pub sectors_word : ℕ
sectors_word = 4

abbrev pub ro_word : ℕ
ro_word = 5

abbrev pub backing_len_word : ℕ
backing_len_word = 6

abbrev pub id0_word : ℕ
id0_word = 7

abbrev pub id1_word : ℕ
id1_word = 8

abbrev pub id2_word : ℕ
id2_word = 9

abbrev pub size_word : ℕ
size_word = 10

abbrev pub desc_area_word : ℕ
desc_area_word = 11

abbrev pub avail_area_word : ℕ
avail_area_word = 12

abbrev pub used_area_word : ℕ
used_area_word = 13

abbrev pub chain_len_word : ℕ
chain_len_word = 14

abbrev pub stage_len_word : ℕ
stage_len_word = 15

abbrev pub taken_word : ℕ
taken_word = 16

abbrev pub answered_word : ℕ
answered_word = 17

abbrev pub tag_word : ℕ
tag_word = 18

abbrev pub head_word : ℕ
head_word = 19

abbrev pub count_word : ℕ
count_word = 20

abbrev pub reads_word : ℕ
reads_word = 21

abbrev pub r_word : ℕ
r_word = 22

abbrev pub w_word : ℕ
w_word = 23

abbrev pub a_word : ℕ
a_word = 24

abbrev pub b_word : ℕ
b_word = 25

abbrev pub c_word : ℕ
c_word = 26

abbrev pub d_word : ℕ
d_word = 27

abbrev pub descs_word : ℕ
descs_word = 28

abbrev pub regions_from : ℕ
regions_from = 29

abbrev pub state_words : ℕ
state_words = regions_from + 3 * regions_max

-- the phase as numbers
unfoldable pub job_tag : Job → ℕ
job_tag Done = 0
job_tag Failed = 1
job_tag Unsupported = 2
job_tag (Read s) = 3
job_tag Identity = 4
job_tag (Write s) = 5

unfoldable pub job_sector : Job → ℕ
job_sector Done = 0
job_sector Failed = 0
job_sector Unsupported = 0
job_sector (Read s) = s
job_sector Identity = 0
job_sector (Write s) = s

abbrev pub row : ℕ → Walk → ℕ → ℕ → ℕ → ℕ → Row
row tag k a b c d = record { tag = tag; head = k.head; count = k.count; reads = k.reads; r = k.r; w = k.w; a = a; b = b; c = c; d = d }

abbrev pub no_walk : Walk
no_walk = record { head = 0; count = 0; reads = 0; r = 0; w = 0 }

unfoldable pub row_of : Phase → Row
row_of Poll = row 1 no_walk 0 0 0 0
row_of Entry = row 2 no_walk 0 0 0 0
row_of (Chain k cur) = row 3 k cur 0 0 0
row_of (Header k p got) = row 4 k p.buf p.skip 0 got
row_of (Payload k p s got) = row 5 k p.buf p.skip s got
row_of (Answer k job got) = row 6 k (job_tag job) 0 (job_sector job) got
row_of (Publish k got) = row 7 k 0 0 0 got
row_of (Broken reason head count at) = row 8 (record { head = head; count = count; reads = 0; r = 0; w = 0 }) reason at 0 0

-- .. and back
unfoldable pub job_of : ℕ → ℕ → Job
job_of tag s =
    pick (eqb tag 0) Done (pick (eqb tag 1) Failed (pick (eqb tag 2) Unsupported (pick (eqb tag 3) (Read s) (pick (eqb tag 4) Identity (Write s)))))

abbrev pub walk_of : Row → Walk
walk_of x = record { head = x.head; count = x.count; reads = x.reads; r = x.r; w = x.w }

unfoldable pub phase_of : Row → Phase
phase_of x =
    pick (eqb x.tag 1) Poll
    (pick (eqb x.tag 2) Entry
    (pick (eqb x.tag 3) (Chain (walk_of x) x.a)
    (pick (eqb x.tag 4) (Header (walk_of x) (record { buf = x.a; skip = x.b }) x.d)
    (pick (eqb x.tag 5) (Payload (walk_of x) (record { buf = x.a; skip = x.b }) x.c x.d)
    (pick (eqb x.tag 6) (Answer (walk_of x) (job_of x.a x.c) x.d)
    (pick (eqb x.tag 7) (Publish (walk_of x) x.d) (Broken x.a x.head x.count x.b)))))))

unfoldable pub row_at : List ℕ → Row
row_at s =
    record {
      tag = get_or s tag_word 0;
      head = get_or s head_word 0;
      count = get_or s count_word 0;
      reads = get_or s reads_word 0;
      r = get_or s r_word 0;
      w = get_or s w_word 0;
      a = get_or s a_word 0;
      b = get_or s b_word 0;
      c = get_or s c_word 0;
      d = get_or s d_word 0;
    }

unfoldable pub row_words : Row → List ℕ
row_words x = x.tag ∷ x.head ∷ x.count ∷ x.reads ∷ x.r ∷ x.w ∷ x.a ∷ x.b ∷ x.c ∷ x.d ∷ []

-- the words that steps change: the two counters, the phase, the last complete chain's number
abbrev pub saved_words : ℕ
saved_words = 13

-- the state with these counters, this number of descriptors of the last complete chain, and this phase
unfoldable pub saved : List ℕ → ℕ → ℕ → ℕ → Phase → List ℕ
saved s taken answered descs p = put s taken_word (taken ∷ answered ∷ (row_words (row_of p) ++ (descs ∷ [])))

-- .. with the numbers that it has: most steps change the phase alone
abbrev pub kept : List ℕ → Phase → List ℕ
kept s p = saved s (get_or s taken_word 0) (get_or s answered_word 0) (get_or s descs_word 0) p

-- the request at hand, and the place in its buffers
abbrev pub walk_at : List ℕ → Walk
walk_at s = record { head = get_or s head_word 0; count = get_or s count_word 0; reads = get_or s reads_word 0; r = get_or s r_word 0; w = get_or s w_word 0 }

abbrev pub place_at : List ℕ → Place
place_at s = record { buf = get_or s a_word 0; skip = get_or s b_word 0 }

-- the registered regions' words
abbrev pub map_words : List ℕ → List ℕ
map_words s = part regions_from (3 * get_or s regions_word 0) s

unfoldable pub config_at : List ℕ → Config
config_at s =
    record {
      queue = record { size = get_or s size_word 0; desc = get_or s desc_area_word 0; avail = get_or s avail_area_word 0; used = get_or s used_area_word 0 };
      disk = record { start = get_or s start_word 0; sectors = get_or s sectors_word 0; ro = get_or s ro_word 0 };
      id = record { first = get_or s id0_word 0; second = get_or s id1_word 0; last = get_or s id2_word 0 };
      m = get_or s mem_len_word 0;
    }

-- which words set-up makes
unfoldable pub memory_ok : List ℕ → Bool
memory_ok s = both (leb 1 (get_or s regions_word 0)) (both (leb (get_or s regions_word 0) regions_max) (sound (get_or s mem_len_word 0) (regions (map_words s))))

unfoldable pub disk_ok : List ℕ → Bool
disk_ok s = both (eqb (disk_code (get_or s start_word 0) (get_or s sectors_word 0) (get_or s backing_len_word 0)) 0) (both (leb (get_or s ro_word 0) 1) (ltb (get_or s id2_word 0) (2 ^ 32)))

-- the memory that was lent for this queue, the counters, and how many descriptors a chain may have had
unfoldable pub lent_ok : ℕ → ℕ → ℕ → ℕ → ℕ → ℕ → Bool
lent_ok q chain stage taken answered descs =
    both (leb (2 * q) chain) (both (leb 1048576 stage) (both (ltb taken 65536) (both (ltb answered 65536) (leb descs q))))

unfoldable pub queue_ok : List ℕ → Bool
queue_ok s =
    both (queue_size_ok (get_or s size_word 0))
    (both (leb (get_or s desc_area_word 0 + 16 * get_or s size_word 0) (get_or s mem_len_word 0))
    (both (leb (get_or s avail_area_word 0 + (6 + 2 * get_or s size_word 0)) (get_or s mem_len_word 0))
    (both (leb (get_or s used_area_word 0 + (6 + 8 * get_or s size_word 0)) (get_or s mem_len_word 0))
    (lent_ok (get_or s size_word 0) (get_or s chain_len_word 0) (get_or s stage_len_word 0) (get_or s taken_word 0) (get_or s answered_word 0) (get_or s descs_word 0)))))

-- .. and steps: a phase's number, a job's number, and numbers that fit together
unfoldable pub tags_ok : ℕ → ℕ → Bool
tags_ok tag job = both (leb 1 tag) (both (leb tag 8) (pick (eqb tag 6) (leb job 5) true))

unfoldable pub phase_ok : List ℕ → Bool
phase_ok s = both (tags_ok (get_or s tag_word 0) (get_or s a_word 0)) (sane (get_or s size_word 0) (get_or s sectors_word 0) (phase_of (row_at s)))

unfoldable pub enabled_ok : List ℕ → Bool
enabled_ok s = both (queue_ok s) (phase_ok s)

-- what of an enabled queue doesn't hang on the phase
unfoldable pub framed : List ℕ → Bool
framed s = both (eqb (get_or s level_word 0) 3) (both (memory_ok s) (both (disk_ok s) (queue_ok s)))

-- how far set-up has come; words that set-up and steps don't make count as nothing
unfoldable pub level : List ℕ → ℕ
level s =
    pick (memory_ok s)
    (pick (eqb (get_or s level_word 0) 1) 1
    (pick (disk_ok s) (pick (eqb (get_or s level_word 0) 2) 2 (pick (eqb (get_or s level_word 0) 3) (pick (enabled_ok s) 3 0) 0)) 0))
    0
