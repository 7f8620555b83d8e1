-- Shared links: the packets of all lines between the home and a remote travel on them. A shared
-- link is the list of the numbers of the lines whose packets are under way, in the order in which
-- they were put; the packets themselves are on the lines' own links. After each put and each take
-- all other shared lists, and their number, are as before.
use Rattle.std.specs.Prelude.{ℕ, List, [], ◌∷◌, ◌++◌, drop, Option, Some, None}
use Rattle.std.specs.Prelude.{slice_get, slice_set, slice_index_or}
use Rattle.ordered_links.specs.Link.{Link, Up, Down}

-- The shared up link of a remote, and its shared down link: of each the numbers of lines, of which
-- the first is that of the next packet to be taken.
pub record SharedPair : Type 0 where
  pub up : List ℕ
  pub down : List ℕ

-- nothing is under way on either
abbrev pub no_entries : SharedPair
no_entries = record { up = []; down = [] }

-- the two shared links of this remote; past the last remote there is nothing under way
abbrev pub shared_at : List SharedPair → ℕ → SharedPair
shared_at shared j = slice_index_or shared j no_entries

-- the numbers of lines on this shared link
abbrev pub shared_on : Link → List SharedPair → List ℕ
shared_on (Up j) shared = (shared_at shared j).up
shared_on (Down j) shared = (shared_at shared j).down

-- The shared links after the numbers on this one have become these; all others are as before. Past
-- the last remote nothing changes.
abbrev pub with_shared : Link → List ℕ → List SharedPair → List SharedPair
with_shared (Up j) numbers shared =
    slice_set shared j (record (shared_at shared j) { up = numbers })
with_shared (Down j) numbers shared =
    slice_set shared j (record (shared_at shared j) { down = numbers })

-- the number of the line whose packet is taken next from this shared link; none where nothing is
-- under way on it
abbrev pub first_line : Link → List SharedPair → Option ℕ
first_line link shared = slice_get (shared_on link shared) 0

-- After a put of line a on this link, if on any: its number ends the shared list of the link.
abbrev pub shared_put : ℕ → Option Link → List SharedPair → List SharedPair
shared_put a None shared = shared
shared_put a (Some link) shared = with_shared link (shared_on link shared ++ a ∷ []) shared

-- After a take from this link, if from any: the first number of its shared list is gone.
abbrev pub shared_left : Option Link → List SharedPair → List SharedPair
shared_left None shared = shared
shared_left (Some link) shared = with_shared link (drop 1 (shared_on link shared)) shared

-- The shared links after a step of line a, which puts one packet at most, on this link, and then
-- takes one at most, from this one.
abbrev pub shared_after : ℕ → (puts_on takes_from : Option Link) → List SharedPair
    → List SharedPair
shared_after a puts_on takes_from shared = shared_left takes_from (shared_put a puts_on shared)
