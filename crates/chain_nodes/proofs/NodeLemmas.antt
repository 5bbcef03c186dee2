-- A node, from the words of its entries.
use Rattle.std.proofs.Common.{◌≡◌, ℕ, ◌+◌, ◌^◌, ◌≤◌, IsTrue, Option, None, sym, ◌∙◌, subst, arith}
use Rattle.save_bytes.specs.Cells.{Cell}
use Rattle.save_bytes.specs.State.{State}
use Rattle.save_bytes.specs.Stays.{Stays}
use Rattle.chain_nodes.specs.declared.info.ChainInfo.{ChainInfo}
use Rattle.chain_nodes.specs.declared.fault.ChainFault.{ChainFault}
use Rattle.chain_nodes.specs.declared.node.Lead.{Lead}
use Rattle.chain_nodes.specs.Table.{table_in, word_v, index_of, flagged, HasWords, HasAllocationTable}
use Rattle.chain_nodes.specs.Chains.{IsInner, IsNode}
use Rattle.chain_nodes.specs.Faults.{IsHead, IsSecond, IsFaulty, FaultsOnly}
use Rattle.chain_nodes.specs.Faults.IsFaulty.{AtSecond, AtLast}
use Rattle.chain_nodes.proofs.TableLemmas.{table_stays}
use Rattle.chain_nodes.proofs.FaultLemmas.{FaultsOnly-later}

module _ (table : ℕ → ℕ → Cell) (count : ℕ) (lead : Lead) where
  -- a node of more than one entry, from its three entries
  long_node : (first last v : ℕ) → 1 ≤ first → v ≡ flagged (index_of v) → IsHead table count lead first
      → v ≡ word_v table first → IsSecond table count first → last ≡ word_v table (first + 1)
      → IsInner table (record { first = first; last = last }) last
      → IsNode table count lead (record { first = first; last = last }) (index_of v)
  long_node first last v some split head v_is second last_is inner = record {
    starts = some;
    ordered = omega (arith, second.behind);
    ends = omega (arith, second.inside);
    read = head.read;
    u = head.u;
    single = λ same. absurd (omega (arith, second.behind));
    several = λ _. sym v_is ∙ split;
    second = λ _. record { read = second.read; u = second.u; v = sym last_is };
    last = λ _. inner;
  }

-- A node's first entry was read in one state, and its second in a later one.
module _ (s m : State) (info : ChainInfo) (lead : Lead) (first v : ℕ) (table : HasAllocationTable s.shape info)
    (stays : Stays s m None) (long : 2 ^ 31 ≤ v)
    (head : IsTrue s.told → IsHead (table_in s.cells info) info.count lead first × (v ≡ word_v
    (table_in s.cells info) first)) where
  -- what fails at the second entry
  pub second_faults : (fault : Option ChainFault)
      → FaultsOnly m info (λ e. HasWords (table_in m.cells info) e × (e ≡ first + 1)
      × ¬ IsSecond (table_in m.cells info) info.count first)
      (λ e. (e ≡ first + 1) × ¬ IsSecond (table_in m.cells info) info.count first) fault
      → FaultsOnly s info (λ e. HasWords (table_in s.cells info) e × IsFaulty
      (table_in s.cells info) info.count lead first e)
      (IsFaulty (table_in s.cells info) info.count lead first) fault
  second_faults fault faults =
      let same = table_stays s m info table stays in
      let faulty = λ (told : IsTrue s.told) (e : ℕ) (is : e ≡ first + 1)
      (isnt : ¬ IsSecond (table_in m.cells info) info.count first).
      AtSecond (head told).0 (omega (arith, (head told).1)) is
      (λ second. isnt (subst (λ (t : ℕ → ℕ → Cell). IsSecond t info.count first) (sym (same told)) second)) in
      FaultsOnly-later s m info fault table stays
      (λ told e (words, is, isnt). (
        subst (λ (t : ℕ → ℕ → Cell). HasWords t e)
            (same told) words,
        faulty told e is isnt,
      ))
      (λ told e (is, isnt). faulty told e is isnt) faults

  -- and its last one in a state still later
  module _ (l : State) (later : Stays s l None) (last : ℕ)
      (second : IsTrue m.told → IsSecond (table_in m.cells info) info.count first × (last ≡ word_v
      (table_in m.cells info) (first + 1))) where
    second_here : IsTrue s.told
        → IsSecond (table_in s.cells info) info.count first × (last ≡ word_v (table_in s.cells info) (first + 1))
    second_here told =
        subst (λ (t : ℕ → ℕ → Cell). IsSecond t info.count first × (last ≡ word_v t (first + 1)))
        (table_stays s m info table stays told) (second (stays.space.told told))

    -- what fails at the last entry
    pub last_faults : (fault : Option ChainFault)
        → FaultsOnly l info (λ e. HasWords (table_in l.cells info) e × (e ≡ last)
        × ¬ IsInner (table_in l.cells info) (record { first = first; last = last }) last)
        (λ e. (e ≡ last) × ¬ IsInner (table_in l.cells info) (record { first = first; last = last }) last) fault
        → FaultsOnly s info (λ e. HasWords (table_in s.cells info) e × IsFaulty
        (table_in s.cells info) info.count lead first e)
        (IsFaulty (table_in s.cells info) info.count lead first) fault
    last_faults fault faults =
        let same = table_stays s l info table later in
        let faulty = λ (told : IsTrue s.told) (e : ℕ) (is : e ≡ last)
        (isnt : ¬ IsInner (table_in l.cells info) (record { first = first; last = last }) last).
        AtLast (head told).0 (omega (arith, (head told).1)) (second_here told).0 (is ∙ (second_here told).1)
        (λ inner. isnt (rw (same told) (rw (sym is) inner))) in
        FaultsOnly-later s l info fault table later
        (λ told e (words, is, isnt). (
          subst (λ (t : ℕ → ℕ → Cell). HasWords t e)
              (same told) words,
          faulty told e is isnt,
        ))
        (λ told e (is, isnt). faulty told e is isnt) faults

    -- the node, where nothing fails
    pub whole_node : IsTrue s.told → 1 ≤ first → v ≡ flagged (index_of v)
        → (IsTrue l.told → IsInner (table_in l.cells info) (record { first = first; last = last }) last)
        → IsNode (table_in s.cells info) info.count lead (record { first = first; last = last }) (index_of v)
    whole_node told some split inner =
        long_node (table_in s.cells info) info.count lead first last v some split (head told).0 (head told).1
        (second_here told).0 (second_here told).1
        (subst (λ (t : ℕ → ℕ → Cell). IsInner t (record { first = first; last = last }) last)
        (table_stays s l info table later told) (inner (later.space.told told)))
