-- The list that a table gives, as a function: what is said of chains as a relation, computed.
use Rattle.std.specs.Prelude.{ℕ, zero, suc, ◌+◌, ◌-◌, ◌^◌, Bool, true, false, ◌&&◌, ◌==◌, nat_lt, nat_le, if◌then◌else◌}
use Rattle.std.specs.Prelude.{List, [], ◌++◌, length}
use Rattle.std.specs.Prelude.{Option, Some, None, option_map}
use Rattle.std.specs.List.{range_with_len}
use Rattle.save_bytes.specs.Cells.{Cell, Byte, Blank, Spoilt}
use Rattle.chain_nodes.specs.declared.node.Node.{Node}
use Rattle.chain_nodes.specs.declared.node.Lead.{Lead}
use Rattle.chain_nodes.specs.declared.node.Lead.TheVariants.{Opens, OpensFree, Follows}
use Rattle.chain_nodes.specs.Table.{word_u, word_v, index_of, flagged}
use Rattle.chain_space.specs.Bounded.{each_passes}

abbrev pub is_byte : Cell → Bool
is_byte (Byte value) = true
is_byte (Blank part level block) = false
is_byte (Spoilt part level block) = false

unfoldable pub has_words : (ℕ → ℕ → Cell) → ℕ → Bool
has_words table entry = each_passes 8 (λ k. is_byte (table entry k))

abbrev pub is_lead : Lead → ℕ → Bool
is_lead Opens word = word == flagged 0
is_lead OpensFree word = index_of word == 0
is_lead (Follows before) word = word == before

unfoldable pub is_inner : (ℕ → ℕ → Cell) → Node → ℕ → Bool
is_inner table node entry =
    has_words table entry && ((word_u table entry == flagged node.first) && (word_v table entry == node.last))

-- the test of `IsNode`
unfoldable pub is_node : (ℕ → ℕ → Cell) → ℕ → Lead → Node → ℕ → Bool
is_node table count lead node next =
    nat_le 1 node.first && (nat_le node.first node.last && (nat_le node.last count
    && (has_words table node.first && (is_lead lead (word_u table node.first)
    && (if nat_lt node.first node.last
    then (word_v table node.first == flagged next)
    && (is_inner table node (node.first + 1) && is_inner table node node.last)
    else (word_v table node.first == next))))))

-- the node that begins with an entry, by its words
unfoldable pub node_at : (ℕ → ℕ → Cell) → ℕ → Node
node_at table first = record {
  first = first;
  last = if nat_le (2 ^ 31) (word_v table first) then word_v table (first + 1) else first;
}

-- the entries of the list that begins with `first`, where the table is as it should be and the list has so many nodes
-- at most
unfoldable pub list_in : (ℕ → ℕ → Cell) → ℕ → ℕ → Lead → ℕ → Option (List ℕ)
list_in table count zero lead first = if first == 0 then Some [] else None
list_in table count (suc most) lead first =
    if first == 0 then Some []
    else (if is_node table count lead (node_at table first) (index_of (word_v table first))
    then option_map (λ rest. range_with_len first ((node_at table first).last + 1 - first) ++ rest)
    (list_in table count most (Follows first) (index_of (word_v table first)))
    else None)

-- there is a list, of so many entries at least and at most
abbrev pub has_length : ℕ → ℕ → Option (List ℕ) → Bool
has_length least most None = false
has_length least most (Some list) = nat_le least (length list) && nat_le (length list) most
