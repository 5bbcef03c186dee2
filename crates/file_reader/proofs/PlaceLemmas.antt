-- Where the bytes of contents lie, and what a reading's place says.
use Rattle.std.proofs.Common.{◌≡◌, ℕ, ◌+◌, ◌-◌, ◌*◌, ◌/◌, ◌%◌, ◌^◌, ◌<◌, ◌≤◌, List, length, get_or, refl, sym, ◌∙◌, ap}
use Rattle.std.proofs.Common.{subst, arith, ◌≢◌, nat_eq}
use Rattle.std.specs.List.{IsDistinct}
use Rattle.std.proofs.lemmas.Nat.{div-add-mod', mod_below}
use Rattle.std.proofs.Math.Nat.{mul-le-mul_right, mul-add-div_right, mul-add-mod_self_right}
use Rattle.save_bytes.specs.Cells.{Cell, IsByte, Blames, AreBytesAt}
use Rattle.chain_nodes.specs.declared.info.ChainInfo.{ChainInfo}
use Rattle.chain_nodes.specs.declared.info.Run.{Run}
use Rattle.chain_nodes.specs.declared.node.Lead.{Lead}
use Rattle.chain_nodes.specs.declared.node.Lead.TheVariants.{Opens}
use Rattle.chain_nodes.specs.Chains.{AreNodes, start_of, entries_of, IsLinkedBy}
use Rattle.chain_nodes.specs.Runs.{IsReached, IsListPlace, IsAtEnd, IsRunIn, DoneUnlessDisk}
use Rattle.chain_nodes.specs.declared.fault.ChainFault.{ChainFault}
use Rattle.chain_nodes.specs.declared.fault.ChainFault.TheVariants.{Broken, Short}
use Rattle.chain_nodes.specs.declared.fault.ChainFault.TheVariants.{Bad as Refused}
use Rattle.save_bytes.specs.declared.space.Bad.TheVariants.{Disk, Damaged}
use Rattle.std.proofs.Common.{Err, Some, inl, inr, add_assoc, zero-add}
use Rattle.std.proofs.Common.{take, ◌++◌}
use Rattle.std.proofs.lemmas.Bool.{cases_lt}
use Rattle.std.proofs.Math.Seq.{take-append_seam}
use Rattle.std.proofs.lemmas.List.{length-take-le, take_all}
use borrow.Rule.Slice.PartMut.{put_mid}
use Rattle.save_bytes.proofs.CellLemmas.{copy_more}
use Rattle.chain_nodes.specs.declared.walk.Cursor.{Cursor}
use Rattle.save_bytes.specs.declared.space.Bad.{Bad}
use Rattle.save_bytes.specs.Refusals.{IfDamaged}
use Rattle.save_bytes.specs.Answers.{IsFirstFault}
use Rattle.chain_nodes.proofs.ExactLemmas.{linked_first, same_list}
use Rattle.chain_space.specs.Shown.{block_place}
use Rattle.chain_space.proofs.ShownLemmas.{block_inside, block_some, list_entry}
use Rattle.file_reader.specs.declared.reading.Reading.{Reading}
use Rattle.file_reader.specs.Contents.{IsContentsList, contents_in, DoneOrDamaged}
use Rattle.file_reader.specs.Reading.{IsCursorOf, IsReadingAt, IsPieceRead}

sum : (region b j block k r : ℕ) → j * block + r ≡ k → region + (b + j + 1 - 1) * block + r ≡ region + b * block + k
sum region b j block k r is =
    let split : (b + j) * block ≡ b * block + j * block = omega arith in
    let less : b + j + 1 - 1 ≡ b + j = omega arith in
    rw less (omega (arith, split, is))

-- a byte of a run that is the list's from a position on
pub run_place : (info : ChainInfo) (list : List ℕ) (pos k : ℕ) (run : Run) → 1 ≤ info.block → IsRunIn list pos run
    → k < run.len * info.block
    → block_place info list (pos * info.block + k) ≡ info.region_at + run.block * info.block + k
run_place info list pos k run some in_run less =
    let block = info.block in
    let j : ℕ = k / block in
    let within : j < run.len = block_inside block some k run.len less in
    let entry : get_or list (pos + j) 0 ≡ run.block + j + 1 = in_run.blocks j within in
    rw (mul-add-div_right some pos k, mul-add-mod_self_right pos block k, entry)
    (sum info.region_at run.block j block k (k % block) (div-add-mod' k block))

-- each byte lies in the region
pub place_inside : (table : ℕ → ℕ → Cell) (info : ChainInfo) (start size : ℕ) (list : List ℕ) (x : ℕ)
    → IsContentsList table info start size list → x < size
    → block_place info list x < info.region_at + info.count * info.block
place_inside table info start size list x contents less =
    let block = info.block in
    let inside : x < length list * block = omega (arith, less, contents.enough) in
    let some : 0 < block = block_some x (length list) block inside in
    let pos : ℕ = x / block in
    let entry = list_entry table info.count Opens (start + 1) list pos (contents.chain (omega (arith, less))).linked
    (block_inside block some x (length list) inside) in
    let fits : get_or list pos 0 - 1 + 1 ≤ info.count = omega (arith, entry.0, entry.1) in
    omega (arith, mul-le-mul_right block fits, mod_below x block some)

-- there is a run behind a reading that has none in hand
pub record HasNextRun (table : ℕ → ℕ → Cell) (list : List ℕ) (x : ℕ) (reading : Reading) : Type 0 where
  pub first : reading.cursor.first ≤ reading.info.count
  pub next : reading.cursor.next ≤ reading.info.count
  pub bounded : reading.cursor.passed ≤ reading.info.count
  pub not_at_end : ¬ IsAtEnd reading.cursor
  pub some : 1 ≤ reading.info.block
  pub reached : IsReached table reading.info.count reading.cursor.opens reading.cursor.first reading.cursor
  pub linked : IsLinkedBy table reading.info.count reading.cursor.opens reading.cursor.first list
  pub once : IsDistinct nat_eq list
  pub passed : reading.cursor.passed * reading.info.block ≡ x

ends_later : (passed len block x size : ℕ) → passed * block ≡ x + 0 → x < size → size ≤ len * block → passed ≢ len
ends_later passed len block x size is less enough same = omega (
  arith,
  ap (λ
      (n : ℕ). n * block) same,
  is,
  less,
  enough,
)

pub next_run_there : (table : ℕ → ℕ → Cell) (start size : ℕ) (list : List ℕ) (x : ℕ) (reading : Reading)
    → reading.info.count < 2 ^ 31 → IsReadingAt table start size list x reading → reading.run ≡ 0 → x < size
    → HasNextRun table list x reading
next_run_there table start size list x reading few at none less =
    let count = reading.info.count in
    let block = reading.info.block in
    let cursor = at.cursor (omega (arith, less)) in
    let chain = at.contents.chain (omega (arith, less)) in
    let passed : reading.cursor.passed * block ≡ x + 0 = subst (λ (n : ℕ). reading.cursor.passed * block ≡ x + n) none
    cursor.passed in
    let reached : IsReached table count Opens (start + 1) reading.cursor =
    subst (λ (f : ℕ). IsReached table count Opens f reading.cursor) cursor.first
    (subst (λ (lead : Lead). IsReached table count lead reading.cursor.first reading.cursor) cursor.opens
    cursor.place.reached) in
    let at_end : ¬ IsAtEnd reading.cursor = λ end.
    (let whole : entries_of reached.nodes ≡ list =
    same_list table count few Opens (start + 1) list chain.linked (entries_of reached.nodes) (record {
      nodes = reached.nodes;
      linked = subst (λ (n : ℕ). AreNodes table count Opens reached.nodes n) end reached.linked;
      starts = subst (λ (n : ℕ). start_of reached.nodes n ≡ start + 1) end reached.starts;
      entries = refl;
    }) in
    ends_later reading.cursor.passed (length list) block x size passed less at.contents.enough
    (reached.behind ∙ ap length whole)) in
    record {
      first = subst (λ (f : ℕ). f ≤ count) (sym cursor.first) (linked_first table count few Opens
          (start + 1) list chain.linked);
      next = reached.named;
      bounded = cursor.place.bounded;
      not_at_end = at_end;
      some = block_some x (length list) block (omega (arith, less, at.contents.enough));
      reached = cursor.place.reached;
      linked = subst (λ (f : ℕ). IsLinkedBy table count reading.cursor.opens f list) (sym cursor.first)
          (subst (λ (lead : Lead). IsLinkedBy table count lead (start + 1) list) (sym cursor.opens) chain.linked);
      once = chain.once;
      passed = omega (arith, passed);
    }

-- a reading is this one with another run in hand, behind which the list goes on at a cursor
pub record HasRunInHand (reading next : Reading) (given : Run) (behind : Cursor) : Type 0 where
  pub info : next.info ≡ reading.info
  pub cursor : next.cursor ≡ behind
  pub at : next.at ≡ reading.info.region_at + given.block * reading.info.block
  pub run : next.run ≡ given.len * reading.info.block
  pub left : next.left ≡ reading.left

-- the cursor behind a run of the list
pub record IsBehindRun (table : ℕ → ℕ → Cell) (list : List ℕ) (count : ℕ) (cursor : Cursor) (given : Run)
    (behind : Cursor) : Type 0 where
  pub in_run : IsRunIn list cursor.passed given
  pub opens : behind.opens ≡ cursor.opens
  pub first : behind.first ≡ cursor.first
  pub reached : IsReached table count cursor.opens cursor.first behind
  pub bounded : behind.passed ≤ count
  pub moved : behind.passed ≡ cursor.passed + given.len

behind_place : (table : ℕ → ℕ → Cell) (list : List ℕ) (count : ℕ) (cursor : Cursor) (given : Run) (behind : Cursor)
    → IsBehindRun table list count cursor given behind → IsListPlace table count behind
behind_place table list count cursor given behind h = record {
  reached = subst (λ (f : ℕ). IsReached table count behind.opens f behind) (sym h.first)
      (subst (λ (lead : Lead). IsReached table count lead cursor.first behind) (sym h.opens) h.reached);
  bounded = h.bounded;
}

sum_blocks : (passed len block x : ℕ) → passed * block ≡ x → (passed + len) * block ≡ x + len * block
sum_blocks passed len block x is = omega (arith, is)

behind_cursor : (table : ℕ → ℕ → Cell) (entry x : ℕ) (list : List ℕ) (reading : Reading) (behind : Cursor)
    (given : Run)
    → reading.cursor.passed * reading.info.block ≡ x
    → IsBehindRun table list reading.info.count reading.cursor given behind → IsCursorOf table entry x reading
    → (next : Reading) → HasRunInHand reading next given behind → IsCursorOf table entry x next
behind_cursor table entry x list reading behind given passed h old next has = record {
  opens = ap (λ (c : Cursor). c.opens) has.cursor ∙ h.opens ∙ old.opens;
  first = ap (λ (c : Cursor). c.first) has.cursor ∙ h.first ∙ old.first;
  place = subst (λ (info : ChainInfo). IsListPlace table info.count next.cursor) (sym has.info)
      (subst (λ (c : Cursor). IsListPlace table reading.info.count c) (sym has.cursor)
      (behind_place table list reading.info.count reading.cursor given behind h));
  passed =
      (let count : next.cursor.passed ≡ reading.cursor.passed + given.len = ap (λ
      (c : Cursor). c.passed) has.cursor ∙ h.moved in
      let block : next.info.block ≡ reading.info.block = ap (λ (info : ChainInfo). info.block) has.info in
      rw (count, block, has.run) (sum_blocks reading.cursor.passed given.len reading.info.block x passed));
}

-- then it stands where the other did
pub run_in_hand : (table : ℕ → ℕ → Cell) (start size : ℕ) (list : List ℕ) (x : ℕ) (reading next : Reading)
    (given : Run)
    (behind : Cursor) → 1 ≤ reading.info.block → reading.cursor.passed * reading.info.block ≡ x
    → IsBehindRun table list reading.info.count reading.cursor given behind → HasRunInHand reading next given behind
    → IsReadingAt table start size list x reading → IsReadingAt table start size list x next
run_in_hand table start size list x reading next given behind some passed h has at = record {
  contents = subst (λ (info : ChainInfo). IsContentsList table info start size list) (sym has.info) at.contents;
  left = omega (arith, at.left, has.left);
  cursor = λ bytes. behind_cursor table (start + 1) x list reading behind given passed h (at.cursor bytes) next has;
  run = λ k less.
      (let there : block_place reading.info list (reading.cursor.passed * reading.info.block + k)
      ≡ reading.info.region_at + given.block * reading.info.block + k =
      run_place reading.info list reading.cursor.passed k given some h.in_run (omega (arith, less, has.run)) in
      subst (λ (info : ChainInfo). block_place info list (x + k) ≡ next.at + k) (sym has.info)
      (ap (λ (y : ℕ). block_place reading.info list (y + k)) (sym passed) ∙ there
      ∙ ap (λ (y : ℕ). y + k) (sym has.at)));
}

-- a reading is behind the next bytes of this one
pub record IsBehind (reading next : Reading) (n : ℕ) : Type 0 where
  pub info : next.info ≡ reading.info
  pub cursor : next.cursor ≡ reading.cursor
  pub at : next.at ≡ reading.at + n
  pub run : next.run ≡ reading.run - n
  pub left : next.left ≡ reading.left - n

pub behind_at : (table : ℕ → ℕ → Cell) (start size : ℕ) (list : List ℕ) (x n : ℕ) (reading next : Reading)
    → n ≤ reading.run → n ≤ reading.left → IsBehind reading next n → IsReadingAt table start size list x reading
    → IsReadingAt table start size list (x + n) next
behind_at table start size list x n reading next in_run in_left has at = record {
  contents = subst (λ (info : ChainInfo). IsContentsList table info start size list) (sym has.info) at.contents;
  left = omega (arith, at.left, has.left, in_left);
  cursor = λ bytes. (let old = at.cursor bytes in record {
    opens = ap (λ (c : Cursor). c.opens) has.cursor ∙ old.opens;
    first = ap (λ (c : Cursor). c.first) has.cursor ∙ old.first;
    place = subst (λ (info : ChainInfo). IsListPlace table info.count next.cursor) (sym has.info)
        (subst (λ (c : Cursor). IsListPlace table reading.info.count c) (sym has.cursor) old.place);
    passed =
        (let count : next.cursor.passed ≡ reading.cursor.passed = ap (λ (c : Cursor). c.passed) has.cursor in
        let block : next.info.block ≡ reading.info.block = ap (λ (info : ChainInfo). info.block) has.info in
        rw (count, block) (old.passed ∙ parts x n reading.run next.run in_run has.run));
  });
  run = λ k less.
      (let there : block_place reading.info list (x + (n + k)) ≡ reading.at + (n + k) =
      at.run (n + k) (omega (arith, less, has.run)) in
      let place : x + n + k ≡ x + (n + k) = omega arith in
      subst (λ (info : ChainInfo). block_place info list (x + n + k) ≡ next.at + k) (sym has.info)
      (ap (block_place reading.info list) place ∙ there ∙ omega (arith, has.at)));
}
  where
    parts : (x n run later : ℕ) → n ≤ run → later ≡ run - n → x + run ≡ x + n + later
    parts x n run later fits is = omega (arith, fits, is)

-- a call that was refused gave nothing
pub err_done : {A B : Type 0} (fault : ChainFault) (P : A → Type 0) (Q : B → Type 0)
    → DoneUnlessDisk (Err fault) P → DoneUnlessDisk (Err fault) Q
err_done (Refused Disk) P Q done = tt
err_done (Refused (Damaged part level block)) P Q done = absurd done
err_done (Broken entry) P Q done = absurd done
err_done (Short need have) P Q done = absurd done

-- nor did it come to be damaged
pub err_whole : {A B : Type 0} (fault : ChainFault) (P : A → Type 0) (Q : B → Type 0) (D : ℕ → ℕ → ℕ → Type 0)
    → DoneUnlessDisk (Err fault) P → DoneOrDamaged (Err fault) Q D
err_whole (Refused Disk) P Q D done = tt
err_whole (Refused (Damaged part level block)) P Q D done = absurd done
err_whole (Broken entry) P Q D done = absurd done
err_whole (Short need have) P Q D done = absurd done

-- a refusal is that of the same cells
pub err_damaged : {A B : Type 0} (fault : ChainFault) (P : A → Type 0) (Q : B → Type 0) (D E : ℕ → ℕ → ℕ → Type 0)
    → ((part level block : ℕ) → D part level block → E part level block) → DoneOrDamaged (Err fault) P D
    → DoneOrDamaged (Err fault) Q E
err_damaged (Refused Disk) P Q D E same done = tt
err_damaged (Refused (Damaged part level block)) P Q D E same done = same part level block done
err_damaged (Broken entry) P Q D E same done = absurd done
err_damaged (Short need have) P Q D E same done = absurd done

-- a space refused
pub bad_damaged : {B : Type 0} (bad : Bad) (Q : B → Type 0) (D E : ℕ → ℕ → ℕ → Type 0)
    → ((part level block : ℕ) → D part level block → E part level block) → IfDamaged (Some bad) D
    → DoneOrDamaged (Err (Refused bad)) Q E
bad_damaged Disk Q D E same done = tt
bad_damaged (Damaged part level block) Q D E same done = same part level block done

-- ---- contents after calls that changed no cell

-- contents lie in a space whose cells are the same as before
pub record StayContents (table : ℕ → ℕ → Cell) (info : ChainInfo) (start size : ℕ) (list : List ℕ)
    (old new : ℕ → Cell) : Type 0 where
  pub contents : IsContentsList table info start size list
  pub space : ℕ
  pub inside : info.region_at + info.count * info.block ≤ space
  pub same : (y : ℕ) → y < space → new y ≡ old y

module _ {table : ℕ → ℕ → Cell} {info : ChainInfo} {start size : ℕ} {list : List ℕ} {old new : ℕ → Cell}
    (h : StayContents table info start size list old new) where
  pub cell_stays : (x : ℕ) → x < size → contents_in info list new x ≡ contents_in info list old x
  cell_stays x less = h.same (block_place info list x)
      (omega (arith, place_inside table info start size list x h.contents less, h.inside))

  pub bytes_stay : (x : ℕ) (piece : List ℕ) → x + length piece ≤ size → AreBytesAt (contents_in info list new) x piece
      → AreBytesAt (contents_in info list old) x piece
  bytes_stay x piece fits are k less = sym (cell_stays (x + k) (omega (arith, less, fits))) ∙ are k less

  pub fault_stays : (x n : ℕ) (part level block : ℕ) → x + n ≤ size
      → IsFirstFault (contents_in info list new) x n part level block
      → IsFirstFault (contents_in info list old) x n part level block
  fault_stays x n part level block fits found = record {
    k = found.k;
    within = found.within;
    fault = subst (λ (cell : Cell). Blames cell part level block)
        (cell_stays (x + found.k) (omega (arith, found.within, fits))) found.fault;
    before = λ j less. subst IsByte (cell_stays (x + j) (omega (arith, less, found.within, fits)))
        (found.before j less);
  }

-- bytes of a run in hand are those of the contents
module _ (info : ChainInfo) (list : List ℕ) (cells : ℕ → Cell) (x at run : ℕ)
    (places : (k : ℕ) → k < run → block_place info list (x + k) ≡ at + k) where
  pub run_bytes : (piece : List ℕ) → length piece ≤ run → AreBytesAt cells at piece
      → AreBytesAt (contents_in info list cells) x piece
  run_bytes piece fits are k less = ap cells (places k (omega (arith, less, fits))) ∙ are k less

  pub run_fault : (n m : ℕ) (part level block : ℕ) → n ≤ run → n ≤ m → IsFirstFault cells at n part level block
      → IsFirstFault (contents_in info list cells) x m part level block
  run_fault n m part level block fits longer found = record {
    k = found.k;
    within = omega (arith, found.within, longer);
    fault = subst (λ (y : ℕ). Blames (cells y) part level block)
        (sym (places found.k (omega (arith, found.within, fits)))) found.fault;
    before = λ j less. subst (λ (y : ℕ). IsByte (cells y))
        (sym (places j (omega (arith, less, found.within, fits)))) (found.before j less);
  }

-- the first fault behind bytes
pub fault_behind : (cells : ℕ → Cell) (x done n m part level block : ℕ) → done + n ≤ m
    → ((k : ℕ) → k < done → IsByte (cells (x + k))) → IsFirstFault cells (x + done) n part level block
    → IsFirstFault cells x m part level block
fault_behind cells x done n m part level block fits front found = record {
  k = done + found.k;
  within = omega (arith, found.within, fits);
  fault = subst (λ (y : ℕ). Blames (cells y) part level block) (add_assoc x done found.k) found.fault;
  before = λ j less. (elim (cases_lt j done) [
    | inl below ↦ front j below
    | inr behind ↦
        (let there : x + done + (j - done) ≡ x + j = omega (arith, behind) in
        subst (λ (y : ℕ). IsByte (cells y)) there (found.before (j - done) (omega (arith, less, behind))))
  ]);
}

-- cells that are these bytes are bytes
pub bytes_byte : (cells : ℕ → Cell) (x : ℕ) (piece : List ℕ) → AreBytesAt cells x piece → (k : ℕ) → k < length piece
    → IsByte (cells (x + k))
bytes_byte cells x piece are k less = subst IsByte (sym (are k less)) tt

-- ---- pieces

front_of : (piece rest : List ℕ) (n : ℕ) → length piece ≡ n → take n (piece ++ rest) ≡ piece
front_of piece rest n long =
    ap (λ (k : ℕ). take k (piece ++ rest)) (sym long) ∙ take-append_seam piece rest

-- the bytes of a run were read
pub run_read : (table : ℕ → ℕ → Cell) (start size : ℕ) (list : List ℕ) (x n : ℕ) (old new : ℕ → Cell)
    (reading next : Reading) (piece rest : List ℕ) → IsReadingAt table start size list x reading → n ≤ reading.run
    → n ≤ reading.left → IsBehind reading next n → StayContents table reading.info start size list old new
    → length piece ≡ n → AreBytesAt new reading.at piece
    → IsPieceRead table old start size list x n (take n (piece ++ rest)) next
run_read table start size list x n old new reading next piece rest at in_run in_left has stay long are = record {
  bytes = subst (λ (l : List ℕ). AreBytesAt (contents_in next.info list old) x l) (sym (front_of piece rest n long))
      (subst (λ (info : ChainInfo). AreBytesAt (contents_in info list old) x piece) (sym has.info)
      (bytes_stay stay x piece (omega (arith, at.left, in_left, long))
      (run_bytes reading.info list new x reading.at reading.run at.run piece (omega (arith, long, in_run)) are)));
  stands = behind_at table start size list x n reading next in_run in_left has at;
}

-- a piece behind a piece
pub pieces_join : (table : ℕ → ℕ → Cell) (start size : ℕ) (list : List ℕ) (x done n : ℕ) (old new : ℕ → Cell)
    (mid next : Reading) (out part : List ℕ) → next.info ≡ mid.info
    → IsPieceRead table old start size list x done (take done out) mid
    → IsPieceRead table new start size list (x + done) n (take n part) next
    → StayContents table mid.info start size list old new → length part ≡ length out - done → done ≤ length out
    → n ≤ length part
    → IsPieceRead table old start size list x (done + n) (take (done + n) (put_mid done
    (length out - done) out part)) next
pieces_join table start size list x done n old new mid next out part same front behind stay long inside fits = record {
  bytes = subst (λ (info : ChainInfo). AreBytesAt (contents_in info list old) x
      (take (done + n) (put_mid done (length out - done) out part))) (sym same)
      (copy_more (contents_in mid.info list old) (contents_in mid.info list old) (x + length out) x done n out part
      (omega arith) (λ y less. refl) long inside fits front.bytes
      (bytes_stay stay (x + done) (take n part)
      (omega (arith, behind.stands.left, length-take-le n part fits))
      (subst (λ (info : ChainInfo). AreBytesAt (contents_in info list new) (x + done)
      (take n part)) same behind.bytes)));
  stands = subst (λ (y : ℕ). IsReadingAt table start size list y next) (add_assoc x done n) behind.stands;
}

-- all bytes of the piece
pub piece_whole : (table : ℕ → ℕ → Cell) (cells : ℕ → Cell) (start size : ℕ) (list : List ℕ) (x done : ℕ)
    (out : List ℕ) (reading : Reading) → done ≡ length out
    → IsPieceRead table cells start size list x done (take done out) reading
    → IsPieceRead table cells start size list x (length out) out reading
piece_whole table cells start size list x done out reading all h =
    subst (λ (l : List ℕ). IsPieceRead table cells start size list x (length out) l reading)
    (take_all (length out) out (omega arith))
    (subst (λ (n : ℕ). IsPieceRead table cells start size list x n (take n out) reading) all h)

-- bytes that were read are bytes
pub piece_bytes : (cells : ℕ → Cell) (x done : ℕ) (out : List ℕ) → done ≤ length out
    → AreBytesAt cells x (take done out) → (k : ℕ) → k < done → IsByte (cells (x + k))
piece_bytes cells x done out inside are k less =
    bytes_byte cells x (take done out) are k (omega (arith, less, length-take-le done out inside))

-- the piece is the front of what it was read into
pub piece_front : (table : ℕ → ℕ → Cell) (cells : ℕ → Cell) (start size : ℕ) (list : List ℕ) (x long n : ℕ)
    (piece rest : List ℕ) (reading : Reading) → long ≡ n → length piece ≡ n
    → IsPieceRead table cells start size list x long piece reading
    → IsPieceRead table cells start size list x n (take n (piece ++ rest)) reading
piece_front table cells start size list x long n piece rest reading same is h =
    subst (λ (l : List ℕ). IsPieceRead table cells start size list x n l reading) (sym (front_of piece rest n is))
    (subst (λ (m : ℕ). IsPieceRead table cells start size list x m piece reading) same h)

-- the first fault of all
pub fault_of_all : (cells : ℕ → Cell) (done n size part level block : ℕ) → done + n ≤ size
    → ((k : ℕ) → k < done → IsByte (cells k)) → IsFirstFault cells done n part level block
    → IsFirstFault cells 0 size part level block
fault_of_all cells done n size part level block fits front found =
    fault_behind cells 0 done n size part level block fits
    (λ k less. subst (λ (y : ℕ). IsByte (cells y)) (sym (zero-add k)) (front k less))
    (subst (λ (y : ℕ). IsFirstFault cells y n part level block) (sym (zero-add done)) found)

-- bytes behind bytes are all bytes
pub bytes_more : (cells : ℕ → Cell) (done n : ℕ) (piece : List ℕ) → n ≤ length piece
    → ((k : ℕ) → k < done → IsByte (cells k)) → AreBytesAt cells done (take n piece) → (k : ℕ) → k < done + n
    → IsByte (cells k)
bytes_more cells done n piece fits front are k less = elim (cases_lt k done) [
  | inl below ↦ front k below
  | inr behind ↦
      (let there : done + (k - done) ≡ k = omega (arith, behind) in
      subst (λ (y : ℕ). IsByte (cells y)) there
      (piece_bytes cells done n piece fits are (k - done) (omega (arith, less, behind))))
]
