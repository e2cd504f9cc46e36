-- Swap space: pages sent out, brought in and exchanged, as order 1 says. Paging changes where a page is and nothing in it, so a buffer's places
-- stay as they are and only the numbers in the lists of pages change. What is left by its page joins a line, and is wiped as all that stand
-- there. Assumes nothing.
use Rattle.std.specs.Prelude.{ℕ, suc, ◌+◌, ◌/◌, Bool, false, cond, not, ◌&&◌, List, [], ◌∷◌, ◌++◌, map, ltb, eqb, length, get_or}
use Rattle.rules.specs.Lists.{filter}
use Rattle.rules.specs.Build.{Build}
use Rattle.rules.specs.Node.{Message, Buffer, Group, Node, group_of, with_free, with_paging, with_groups, with_buffer}
use Rattle.rules.specs.Frames.{without, put}

-- a page is in a frame: the frames are numbered first
unfoldable pub in_frame : Build → ℕ → Bool
in_frame b p = ltb p b.frames

-- the number p for q, and q for p
unfoldable pub traded : ℕ → ℕ → ℕ → ℕ
traded p q x = cond (eqb x p) q (cond (eqb x q) p x)

-- a group with these two numbers traded in its list of pages
unfoldable pub traded_in : ℕ → ℕ → Group → Group
traded_in p q G =
    with_buffer
    (record { used = G.buffer.used; count = G.buffer.count; frames = map (traded p q) G.buffer.frames; places = G.buffer.places })
    G

-- the page in p is in q from now on, and the one in q, if there is one, in p
unfoldable pub trading : ℕ → ℕ → Node → Node
trading p q n = with_groups (map (traded_in p q) n.groups) n

-- the last number that a count of pages can have
abbrev pub count_limit : ℕ
count_limit = 4294967295

-- one more, "each count staying at 4,294,967,295 once there"
unfoldable pub more : ℕ → ℕ
more k = cond (ltb k count_limit) (suc k) k

-- the number stands first in the list
unfoldable pub stands_first : ℕ → List ℕ → Bool
stands_first p [] = false
stands_first p (x ∷ xs) = eqb x p

-- "the running group's first page"
unfoldable pub spared : Node → ℕ → Bool
spared n p = not (eqb n.running 0) && stands_first p (group_of n n.running).buffer.frames

-- "the page that has been in a frame longest, except the running group's first page and the page being written", which is in no frame yet
unfoldable pub victim : Node → ℕ
victim n = get_or (filter (λ f. not (spared n f)) n.paging.entered) 0 0

-- the page in frame f goes whole to the front of the swap line, and its frame joins the free line, wiped as all that stand there
unfoldable pub send_out : ℕ → List ℕ → Node → Node
send_out f [] n = n
send_out f (s ∷ ss) n =
    trading f s
    (with_free (n.free ++ (f ∷ []))
    (with_paging
    (record {
      swap = ss;
      entered = without f n.paging.entered;
      out = more n.paging.out;
      brought = n.paging.brought;
    })
    n))

-- "A page needed when no frame is free sends out" the one so chosen
unfoldable pub freed : List ℕ → Node → Node
freed [] n = send_out (victim n) n.paging.swap n
freed (f ∷ fs) n = n

-- "exchanged with the one so chosen if no frame is free": "in an exchange the two trade places"
unfoldable pub exchange : ℕ → ℕ → Node → Node
exchange f p n =
    trading f p
    (with_paging
    (record {
      swap = n.paging.swap;
      entered = without f n.paging.entered ++ (f ∷ []);
      out = more n.paging.out;
      brought = more n.paging.brought;
    })
    n)

-- the page in swap page p is brought into the front of the free line, and p joins the swap line, wiped as all that stand there; or it is
-- exchanged, and nothing is wiped, since neither place is left without a page
unfoldable pub bring_in : ℕ → List ℕ → Node → Node
bring_in p [] n = exchange (victim n) p n
bring_in p (f ∷ fs) n =
    trading f p
    (with_free fs
    (with_paging
    (record {
      swap = n.paging.swap ++ (p ∷ []);
      entered = n.paging.entered ++ (f ∷ []);
      out = n.paging.out;
      brought = more n.paging.brought;
    })
    n))

-- page p is in a frame, brought in if it was in swap
unfoldable pub resident : Build → ℕ → Node → Node
resident b p n = cond (in_frame b p) n (bring_in p n.free n)

-- the number of the page that the next message of a buffer is written to
unfoldable pub next_page : Build → Buffer → ℕ
next_page b v = get_or v.frames ((v.used + v.count) / b.per_frame) 0

-- what a message written to group g needs first: a free frame where it begins a page; "A swapped-out page is brought in before it is written"
unfoldable pub prepared : Build → ℕ → Node → Node
prepared b g n =
    let v = (group_of n g).buffer in
    cond (ltb (v.used + v.count) (length v.places)) (resident b (next_page b v) n) (freed n.free n)

-- the message "moves to the end of its group's buffer"
unfoldable pub store : Build → Message → Node → Node
store b m n = put b m (prepared b m.group n)

-- the first page of a list is in a frame
unfoldable pub first_resident : Build → List ℕ → Node → Node
first_resident b [] n = n
first_resident b (p ∷ ps) n = resident b p n

-- "once settling is done, a running group's first page" is brought in
unfoldable pub runner_resident : Build → Node → Node
runner_resident b n = cond (eqb n.running 0) n (first_resident b (group_of n n.running).buffer.frames n)
