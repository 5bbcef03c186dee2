-- A filesystem has one list for each holder.
use Rattle.std.proofs.Common.{zero, suc, ◌≡◌, ◌≢◌, ◌⊎◌, ℕ, ◌+◌, ◌^◌, ◌<◌, ◌≤◌, List, [], ◌∷◌}
use Rattle.std.proofs.Common.{sym, subst, ◌∙◌, arith, inl, inr, ⊎_elim}
use Rattle.std.specs.List.{Contains}
use Rattle.std.proofs.lemmas.List.{append-nil}
use Rattle.save_bytes.specs.Cells.{Cell}
use Rattle.chain_nodes.specs.declared.info.ChainInfo.{ChainInfo}
use Rattle.chain_nodes.specs.declared.node.Lead.TheVariants.{Opens, OpensFree}
use Rattle.chain_nodes.specs.Table.{index_of, word_v}
use Rattle.chain_nodes.specs.Chains.{IsChain, IsFreeList}
use Rattle.chain_nodes.proofs.ExactLemmas.{same_list}
use Rattle.entry_tables.specs.declared.table.EntryKind.{EntryKind}
use Rattle.entry_tables.specs.declared.table.EntryKind.TheVariants.{File}
use Rattle.entry_tables.specs.Tables.{Table, Tables}
use Rattle.entry_tables.specs.Used.{used_entries}
use Rattle.entry_tables.specs.Rules.{HasFreedList}
use Rattle.entry_tables.proofs.LinkLemmas.{whole_front, Contains-head, Contains-tail}
use Rattle.std.proofs.lemmas.List.Elements.{Contains-append_cases}
use Rattle.std.proofs.lemmas.Bool.{cases_lt, cases_eq}
use Rattle.tree_model.specs.declared.kind.TreeKind.{TreeKind}
use Rattle.tree_model.specs.declared.kind.TreeKind.TheVariants.{Save, Vsxe}
use Rattle.tree_rules.specs.declared.information.TableAt.{TableAt}
use Rattle.tree_rules.specs.declared.information.TableAt.TheVariants.{Plainly, InChain}
use Rattle.tree_rules.specs.declared.information.Places.{Places}
use Rattle.tree_rules.specs.Lists.{Holder, Free, OfTable, OfFile, IsTableList, IsFileList, IsListOfFile, IsListOf}
use Rattle.tree_rules.specs.Lists.IsFileList.{HasNone, HasSome}
use Rattle.tree_rules.specs.Places.{table_lies}

module _ (table : ℕ → ℕ → Cell) (count : ℕ) (few : count < 2 ^ 31) where
  one_free : (xs ys : List ℕ) → IsFreeList table count xs → IsFreeList table count ys → xs ≡ ys
  one_free xs ys h k = same_list table count few OpensFree (index_of (word_v table 0)) ys k.linked xs h.linked

  pub one_chain : (first : ℕ) (xs ys : List ℕ) → IsChain table count first xs → IsChain table count first ys → xs ≡ ys
  one_chain first xs ys h k = same_list table count few Opens first ys k.linked xs h.linked

  pub one_table_list : (at : TableAt) (xs ys : List ℕ) → IsTableList table count at xs → IsTableList table count at ys
      → xs ≡ ys
  one_table_list (Plainly at) xs ys h k = h ∙ sym k
  one_table_list (InChain first blocks) xs ys h k = one_chain (first + 1) xs ys h.0 k.0

one_file_list : (table : ℕ → ℕ → Cell) (chain : ChainInfo) → chain.count < 2 ^ 31 → (start size : ℕ) (xs ys : List ℕ)
    → IsFileList table chain start size xs → IsFileList table chain start size ys → xs ≡ ys
one_file_list table chain few start size xs ys (HasNone none empty is) (HasNone none' empty' is') = is ∙ sym is'
one_file_list table chain few start size xs ys (HasNone none empty is) (HasSome less chains enough) =
    absurd (omega (arith, none, less, few))
one_file_list table chain few start size xs ys (HasSome less chains enough) (HasNone none empty is) =
    absurd (omega (arith, none, less, few))
one_file_list table chain few start size xs ys (HasSome less chains enough) (HasSome less' chains' enough') =
    one_chain table chain.count few (start + 1) xs ys chains chains'

one_list_of_file : (kind : TreeKind) (table : ℕ → ℕ → Cell) (chain : ChainInfo) → chain.count < 2 ^ 31
    → (t : Tables) (e : ℕ) (xs ys : List ℕ) → IsListOfFile kind table chain t e xs
    → IsListOfFile kind table chain t e ys
    → xs ≡ ys
one_list_of_file Save table chain few t e xs ys h k = one_file_list table chain few (t.start e) (t.wide e) xs ys h k
one_list_of_file Vsxe table chain few t e xs ys h k = h ∙ sym k

contains_or_not : (xs : List ℕ) (x : ℕ) → Contains xs x ⊎ ¬ Contains xs x
contains_or_not [] x = inr (λ within. absurd (omega (arith, within.1)))
contains_or_not (y ∷ ys) x =
    ⊎_elim
    (λ (same : y ≡ x). inl (subst (λ (z : ℕ). Contains (y ∷ ys) z) same (Contains-head y ys)))
    (λ (other : y ≢ x).
    ⊎_elim
    (λ (within : Contains ys x). inl (Contains-tail y ys x within))
    (λ (none : ¬ Contains ys x). inr (λ within. (
    ⊎_elim (λ (here : Contains (y ∷ []) x). other (Contains-one y x here)) none
    (Contains-append_cases (y ∷ []) ys x within)
    )))
    (contains_or_not ys x))
    (cases_eq y x) where
      Contains-one : (y x : ℕ) → Contains (y ∷ []) x → y ≡ x
      Contains-one y x (zero, less, is) = is
      Contains-one y x (suc k, less, is) = absurd (omega (arith, less))

-- where the freed entries are a list, an entry is used or not
pub used_or_not : (kind : EntryKind) (t : Table) (e : ℕ) → HasFreedList kind t
    → used_entries t e ⊎ ¬ used_entries t e
used_or_not kind t e freed =
    ⊎_elim
    (λ (some : 1 ≤ e).
    ⊎_elim
    (λ (below : e < t.count).
    ⊎_elim
    (λ (within : Contains freed.0 e). inr (λ used. used.kept freed.0 freed.1.leads within))
    (λ (kept : ¬ Contains freed.0 e). inl (record {
      some = some;
      below = below;
      kept = λ list leads. subst (λ (l : List ℕ). ¬ Contains l e)
          (sym (whole_front t.link (t.link 0) freed.0 list freed.1.leads leads ∙ append-nil freed.0)) kept;
    }))
    (contains_or_not freed.0 e))
    (λ (past : t.count ≤ e). inr (λ used. absurd (omega (arith, past, used.below))))
    (cases_lt e t.count))
    (λ (none : e < 1). inr (λ used. absurd (omega (arith, none, used.some))))
    (cases_le 1 e) where
      cases_le : (a b : ℕ) → (a ≤ b) ⊎ (b < a)
      cases_le a b = ⊎_elim (λ (less : b < a). inr less) (λ (le : a ≤ b). inl le) (cases_lt b a)

module _ (kind : TreeKind) (table : ℕ → ℕ → Cell) (p : Places) (few : p.chain.count < 2 ^ 31) (t : Tables)
    (freed : HasFreedList File (t.table File)) where
  pub one_list_of : (holder : Holder) (xs ys : List ℕ) → IsListOf kind table p t holder xs
      → IsListOf kind table p t holder ys → xs ≡ ys
  one_list_of Free xs ys h k = one_free table p.chain.count few xs ys h k
  one_list_of (OfTable entries) xs ys h k = one_table_list table p.chain.count few (table_lies p entries) xs ys h k
  one_list_of (OfFile e) xs ys h k =
      ⊎_elim
      (λ (used : used_entries (t.table File) e). one_list_of_file kind table p.chain few t e xs ys (h.0 used)
      (k.0 used))
      (λ (unused : ¬ used_entries (t.table File) e). h.1 unused ∙ sym (k.1 unused))
      (used_or_not File (t.table File) e freed)
