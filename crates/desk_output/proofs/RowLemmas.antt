-- The lines of rows, one after another.
use Rattle.std.proofs.Common.{◌≡◌, ℕ, ◌+◌, ◌<◌, ◌≤◌, List, [], ◌∷◌, ◌++◌, length, take, drop, get_or}
use Rattle.std.proofs.Common.{sym, ◌∙◌, ap}
use Rattle.std.proofs.lemmas.List.{append-nil, take-append-drop, take_all, take_more}
use Rattle.std.proofs.lemmas.List.Concat.{flat_map-append}
use Rattle.std.specs.List.{flat_map}
use Rattle.save_disk.specs.State.{State}
use Rattle.save_disk.specs.Tells.{Tells}
use Rattle.tree_model.specs.declared.listing.Row.{Row}
use Rattle.tree_model.specs.Transcripts.{row_line}
use Rattle.desk_output.specs.Output.{SaysFront, SaysAll, SaysBefore}
use Rattle.desk_output.proofs.Telling.{tells_join, joined, before_more, all_join, front_join, front_more}

-- the lines of the first rows
abbrev pub lines_to : ℕ → List Row → List ℕ
lines_to i rows = flat_map row_line (take i rows)

lines_step : (rows : List Row) (i : ℕ) (row : Row) → i < length rows → row ≡ get_or rows i row
    → lines_to (i + 1) rows ≡ lines_to i rows ++ row_line row
lines_step rows i row inside is =
    ap (λ (l : List Row). flat_map row_line l)
    (take_more rows i row inside ∙ ap (λ (r : Row). take i rows ++ r ∷ []) (sym is))
    ∙ flat_map-append row_line (take i rows) (row ∷ [])
    ∙ ap (λ (l : List ℕ). lines_to i rows ++ l) (append-nil (row_line row))

lines_split : (rows : List Row) (i : ℕ) → lines_to i rows ++ flat_map row_line (drop i rows) ≡ flat_map row_line rows
lines_split rows i =
    sym (flat_map-append row_line (take i rows) (drop i rows))
    ∙ ap (λ (l : List Row). flat_map row_line l) (take-append-drop i rows)

lines_all : (rows : List Row) (i : ℕ) → length rows ≤ i → lines_to i rows ≡ flat_map row_line rows
lines_all rows i past = ap (λ (l : List Row). flat_map row_line l) (take_all i rows past)

module _ (rows : List Row) (i : ℕ) (pending : List ℕ) (old mid new : State)
    (so_far : Tells (SaysBefore pending (lines_to i rows)) old mid) where
  -- a row more is said or pending
  pub row_added : (row : Row) (rest next : List ℕ) → i < length rows → row ≡ get_or rows i row
      → Tells (SaysBefore rest pending) mid new → next ≡ rest ++ row_line row
      → Tells (SaysBefore next (lines_to (i + 1) rows)) old new
  row_added row rest next inside is said added =
      tells_join (SaysBefore pending (lines_to i rows)) (SaysBefore rest pending)
      (SaysBefore next (lines_to (i + 1) rows)) old mid new so_far said
      (λ events more before after.
      let both = before_more (lines_to i rows) rest (row_line row) (events ++ more)
      (joined (lines_to i rows) pending rest events more before after) in
      rw (added, lines_step rows i row inside is) both)

  -- the sink failed
  pub rows_cut : Tells (SaysFront pending) mid new → Tells (SaysFront (flat_map row_line rows)) old new
  rows_cut cut =
      tells_join (SaysBefore pending (lines_to i rows)) (SaysFront pending) (SaysFront (flat_map row_line rows))
      old mid new so_far cut
      (λ events more before after.
      front_more (lines_to i rows) (flat_map row_line (drop i rows)) (flat_map row_line rows) (events ++ more)
      (lines_split rows i) (front_join (lines_to i rows) pending events more before after))

  -- all is said
  pub rows_said : length rows ≤ i → Tells (SaysAll pending) mid new → Tells (SaysAll (flat_map row_line rows)) old new
  rows_said past whole =
      tells_join (SaysBefore pending (lines_to i rows)) (SaysAll pending) (SaysAll (flat_map row_line rows))
      old mid new so_far whole
      (λ events more before after.
      rw (← lines_all rows i past) (all_join (lines_to i rows) pending events more before after))
