-- How a buffer takes and frees frames, and what a group's messages need of them. How pages come to be in frames is in Paging. Assumes nothing.
use Rattle.std.specs.Prelude.{ℕ, ◌+◌, ◌-◌, ◌/◌, cond, not, ◌||◌, List, [], ◌∷◌, ◌++◌, map, ltb, eqb, length, drop, get_or, set}
use Rattle.rules.specs.Lists.{filter, sum, up_from}
use Rattle.rules.specs.Build.{Build, group_count}
use Rattle.rules.specs.Node.{Message, Buffer, Node, empty_place, empty_page, group_of, with_free, with_paging, with_entered, with_group, with_buffer, place_of, in_queue}

-- a / d rounded up
unfoldable pub ceil_div : ℕ → ℕ → ℕ
ceil_div a d = (a + (d - 1)) / d

-- a free line, the order of entry and a buffer, between which frames go
pub record Stock : Type 0 where
  pub free : List ℕ
  pub entered : List ℕ
  pub buffer : Buffer

-- the buffer with a frame more at its end, which is empty
unfoldable pub extended : Build → ℕ → Buffer → Buffer
extended b f v =
    record { used = v.used; count = v.count; frames = v.frames ++ (f ∷ []); places = v.places ++ empty_page b }

-- "A frame is taken from the front", and is the last in the order of entry
unfoldable pub take_frame : Build → List ℕ → List ℕ → Buffer → Stock
take_frame b [] es v = record { free = []; entered = es; buffer = v }
take_frame b (f ∷ fs) es v = record { free = fs; entered = es ++ (f ∷ []); buffer = extended b f v }

-- a frame is taken where the places of those at hand are all written: "a list of frames, filled in order"
unfoldable pub with_room : Build → List ℕ → List ℕ → Buffer → Stock
with_room b fs es v =
    cond (ltb (v.used + v.count) (length v.places)) (record { free = fs; entered = es; buffer = v }) (take_frame b fs es v)

-- the message at the first place behind the waiting ones
unfoldable pub appended : Message → Buffer → Buffer
appended m v =
    record {
      used = v.used;
      count = v.count + 1;
      frames = v.frames;
      places = set v.places (v.used + v.count) (place_of m);
    }

-- the node in which this stock is the free line, the order of entry and the buffer of group g
unfoldable pub with_stock : ℕ → Stock → Node → Node
with_stock g s n =
    with_group g (with_buffer s.buffer (group_of n g)) (with_free s.free (with_paging (with_entered s.entered n.paging) n))

-- the message is put at the end of its group's buffer, in a frame at hand or in the front of the free line
unfoldable pub put : Build → Message → Node → Node
put b m n =
    let s = with_room b n.free n.paging.entered (group_of n m.group).buffer in
    with_stock m.group (record { free = s.free; entered = s.entered; buffer = appended m s.buffer }) n

-- the first frame of a buffer
unfoldable pub first_frame : Buffer → ℕ
first_frame v = get_or v.frames 0 0

-- the numbers without f
unfoldable pub without : ℕ → List ℕ → List ℕ
without f xs = filter (λ x. not (eqb x f)) xs

-- "a freed one joins the end." It leaves the order of entry, and what stood in it is gone: "a frame .. left by its page is wiped"
unfoldable pub free_first : Build → List ℕ → List ℕ → Buffer → Stock
free_first b fs es v =
    record {
      free = fs ++ (first_frame v ∷ []);
      entered = without (first_frame v) es;
      buffer = record { used = 0; count = v.count - 1; frames = drop 1 v.frames; places = drop b.per_frame v.places };
    }

-- the first message's place is used up: "Disposing of a message now leaves its place 0, kept length too"
unfoldable pub use_up : List ℕ → List ℕ → Buffer → Stock
use_up fs es v =
    record {
      free = fs;
      entered = es;
      buffer =
          record {
            used = v.used + 1;
            count = v.count - 1;
            frames = v.frames;
            places = set v.places v.used empty_place;
          };
    }

-- "A frame whose places are all used up is freed; when n becomes 0 its last frame is freed too."
unfoldable pub remove_first : Build → List ℕ → List ℕ → Buffer → Stock
remove_first b fs es v = cond (eqb v.count 1 || eqb (v.used + 1) b.per_frame) (free_first b fs es v) (use_up fs es v)

-- "Its pledge, with k messages in the hardware queue, is (h + n + k) / 8 rounded up."
unfoldable pub pledge : Build → Node → ℕ → ℕ
pledge b n g =
    let v = (group_of n g).buffer in
    ceil_div (v.used + v.count + length (in_queue n g)) b.per_frame

-- the pledges of all groups, summed
unfoldable pub pledges : Build → Node → ℕ
pledges b n = sum (map (pledge b n) (up_from 1 group_count))
