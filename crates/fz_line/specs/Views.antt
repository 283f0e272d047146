-- What each side of the line knows, and how the owner distributes the lists of the seats. The owner begins with eight empty lists. It gives one of them to each
-- seat that is opened, and keeps the lists of seats that are never opened.
-- code: fz_line/src/protocol.rt, opening.rt, drain.rt
use Rattle.std.specs.Prelude.{ℕ, ◌+◌, ◌^◌, List, [], ◌∷◌, ◌++◌, replicate, Bool, true, false}
use Rattle.fz_model.specs.declared.answers.Entry.{Entry}
use Rattle.fz_model.specs.declared.limits.TheConstants.{MAX_WORKERS}
use Rattle.fz_line.specs.declared.protocol.View.{View}

-- the sum of f over the list
abbrev pub total : {X : Type 0} → (X → ℕ) → List X → ℕ
total f [] = 0
total f (x ∷ xs) = f x + total f xs

-- the largest number of entries that a line may be sent
abbrev pub sent_limit : ℕ
sent_limit = 2 ^ 62

abbrev pub view_of : Bool → List Entry → List Entry → List (List Entry) → View
view_of owner sent popped lists = record { owner = owner; sent = sent; popped = popped; lists = lists }

-- the owner of a new line, with the lists of all seats
abbrev pub first_view : View
first_view = view_of true [] [] (replicate MAX_WORKERS [])

-- a view that knows nothing
abbrev pub blank : View
blank = view_of false [] [] []

-- the view of a seat that took these entries
abbrev pub seat_view : List Entry → View
seat_view took = view_of false [] [] (took ∷ [])

abbrev pub first_list : List (List Entry) → List Entry
first_list [] = []
first_list (list ∷ lists) = list

abbrev pub other_lists : List (List Entry) → List (List Entry)
other_lists [] = []
other_lists (list ∷ lists) = lists

-- the owner after it gave its first list to a seat, and that seat
abbrev pub without_first : View → View
without_first v = view_of v.owner v.sent v.popped (other_lists v.lists)

abbrev pub first_as_seat : View → View
first_as_seat v = seat_view (first_list v.lists)

-- the owner after it took back the lists of another pass
abbrev pub with_lists_of : View → View → View
with_lists_of v other = view_of v.owner v.sent v.popped (other.lists ++ v.lists)
