-- How a filesystem's tables stand in a space behind which their data blocks lie once more.
use Rattle.std.proofs.Common.{◌≡◌, ℕ, ◌+◌, ◌*◌, ◌^◌, ◌<◌, ◌≤◌, List, length, IsTrue, Option, refl, sym, ap, subst}
use Rattle.std.proofs.Common.{slice_index, ◌∙◌, arith, pow_mono}
use Rattle.std.proofs.Math.Nat.{mul-le-mul_right, add-mul}
use Rattle.std.proofs.lemmas.List.Elements.{All-get_or}
use Rattle.save_bytes.specs.Cells.{Cell}
use Rattle.save_bytes.specs.State.{Shape, State}
use Rattle.chain_space.specs.declared.laid.BlocksSpace.{BlocksSpace}
use Rattle.chain_space.specs.Laid.{Extra, extra_of, CanLay, laid_shape, laid_place}
use Rattle.chain_space.specs.LaidHeld.{extra_in, laid}
use Rattle.chain_space.proofs.LaidLemmas.{true-can_lay}
use Rattle.entry_tables.specs.declared.table.EntryKind.{EntryKind}
use Rattle.entry_tables.specs.declared.table.EntryKind.TheVariants.{Dir, File}
use Rattle.entry_tables.specs.declared.table.TableInfo.{TableInfo}
use Rattle.entry_tables.specs.Kinds.{entry_size}
use Rattle.entry_tables.specs.Tables.{Table, info_of}
use Rattle.entry_tables.specs.Layout.{HasEntryTable}
use Rattle.tree_model.specs.declared.kind.TreeKind.{TreeKind}
use Rattle.tree_rules.specs.declared.information.Information.{Information}
use Rattle.tree_rules.specs.declared.information.Places.{Places}
use Rattle.tree_rules.specs.declared.information.TableAt.{TableAt}
use Rattle.tree_rules.specs.declared.information.TableAt.TheVariants.{Plainly, InChain}
use Rattle.tree_rules.specs.Information.{has_second, front_len}
use Rattle.tree_rules.specs.Places.{places_of, table_lies, table_start, table_info, blocks_in_chain, laid_cells}
use Rattle.tree_rules.specs.Sound.{HasPlaces, IsTablePlace, HasTableRoom}
use Rattle.tree_rules.proofs.LayoutLemmas.{places_from, layout_from}
use Rattle.save_mount.specs.Held.{AreTableBlocks}
use Rattle.save_mount.specs.Audited.{CanAudit}
use Rattle.save_mount.specs.Stored.{StandsIn, AreBlocksOf}
use Rattle.save_mount.proofs.PlaceLemmas.{front_small}
use Rattle.save_mount.proofs.BeginLemmas.{end_small}

-- so many bytes of a table lie in the first part, or in its data blocks
abbrev HasRoom : ℕ → ℕ → ℕ → TableAt → Type 0
HasRoom front block n (Plainly at) = at + n ≤ front
HasRoom front block n (InChain first blocks) = n ≤ blocks * block

room_of : (front block : ℕ) (kind : EntryKind) (t : Table) (at : TableAt) → HasTableRoom front block kind t at
    → HasRoom front block (t.most * entry_size kind) at
room_of front block kind t (Plainly at) h = h
room_of front block kind t (InChain first blocks) h = h

entry_small : (kind : EntryKind) → entry_size kind ≤ 512
entry_small Dir = omega arith
entry_small File = omega arith

-- one entry has room
zero_room : (front count block : ℕ) (kind : EntryKind) (at : TableAt) → IsTablePlace front count kind at → 512 ≤ block
    → HasRoom front block (entry_size kind) at
zero_room front count block kind (Plainly at) h large = h
zero_room front count block kind (InChain first blocks) h large =
    let one : 1 * block ≤ blocks * block = mul-le-mul_right block h.1.least in
    omega (arith, one, large, entry_small kind)

-- a table in a chain has no more blocks than there are
few_in : (front count : ℕ) (kind : EntryKind) (at : TableAt) → IsTablePlace front count kind at
    → blocks_in_chain at ≤ count
few_in front count kind (Plainly at) h = omega arith
few_in front count kind (InChain first blocks) h = h.1.most

-- what has room in a table lies in the store and the blocks behind it
room_fits : (front size block before len behind n : ℕ) (at : TableAt) → front ≤ size
    → behind ≡ size + before * block → before + blocks_in_chain at ≤ len → HasRoom front block n at
    → table_start behind at + n ≤ size + len * block
room_fits front size block before len behind n (Plainly at) small is few h = omega (arith, small, h)
room_fits front size block before len behind n (InChain first blocks) small is few h =
    let all : (before + blocks) * block ≤ len * block = mul-le-mul_right block few in
    let parts : (before + blocks) * block ≡ before * block + blocks * block = add-mul before blocks block in
    omega (arith, is, all, parts, h)

large_block : (log : ℕ) → 9 ≤ log → 512 ≤ 2 ^ log
large_block log least = pow_mono least

small_block : (log : ℕ) → log ≤ 16 → 2 ^ log ≤ 65536
small_block log most = pow_mono most

module _ (shape : Shape) (kind : TreeKind) (split : Option ℕ) (info : Information) (blocks : List ℕ)
    (h : StandsIn shape kind split info (places_of kind split info) blocks) where
  known : HasPlaces kind split shape.size info (places_of kind split info)
  known = places_from kind split shape.size info h.faultless

  front_fits : front_len split shape.size ≤ shape.size
  front_fits = front_small split shape.size h.split_inside

  block_small : info.block ≤ 65536
  block_small = subst (λ (n : ℕ). n ≤ 65536) (sym known.block) (small_block known.log known.log_between.most)

  block_large : 512 ≤ info.block
  block_large = subst (λ (n : ℕ). 512 ≤ n) (sym known.block) (large_block known.log known.log_between.least)

  few_blocks : (table : EntryKind) → blocks_in_chain (table_lies (places_of kind split info) table) ≤ 131072
  few_blocks table =
      let few = few_in (front_len split shape.size) info.count table (table_lies (places_of kind split info) table)
      (known.tables_placed table) in
      omega (arith, few, known.count.most)

  -- so many blocks are small
  many_small : (n : ℕ) → n ≤ 262144 → n * info.block ≤ 17179869184
  many_small n few =
      let one : n * info.block ≤ 262144 * info.block = mul-le-mul_right info.block few in
      omega (arith, one, block_small)

  region_fits : (places_of kind split info).chain.region_at + info.count * info.block ≤ shape.size
  region_fits =
      let least = known.region_inside in
      let most = end_small (has_second kind split) (front_len split shape.size) shape.size front_fits in
      omega (arith, least, most)

  lay_at : CanLay (extra_of (places_of kind split info).chain.region_at (places_of kind split info).chain.block blocks)
      shape
  unfolding places_of
  lay_at = record {
    sound = h.sound;
    first = h.first;
    lie = record {
      inside = λ k less.
          let below : slice_index blocks k < info.count = All-get_or (λ (block : ℕ). block < info.count) blocks k 0 less h.blocks_are.inside in
          let product : (slice_index blocks k + 1) * info.block ≤ info.count * info.block =
          mul-le-mul_right info.block (omega (arith, below)) in
          omega (arith, product, region_fits);
      fits =
          let few = many_small (length blocks) (omega (arith, h.blocks_are.count, few_blocks Dir, few_blocks File)) in
          omega (arith, few, h.small);
    };
  }

  begins_at : shape.size + blocks_in_chain (places_of kind split info).dirs.table
      * (places_of kind split info).chain.block < 2 ^ 64
  unfolding places_of
  begins_at =
      let dirs = few_blocks Dir in
      let few = many_small (blocks_in_chain (places_of kind split info).dirs.table) (omega (arith, dirs)) in
      omega (arith, few, h.small)

  -- what has room in a table lies in the store and the blocks behind it
  laid_fits : (table : EntryKind) (n : ℕ)
      → HasRoom (front_len split shape.size) info.block n (table_lies (places_of kind split info) table)
      → (info_of (table_info shape.size (places_of kind split info) Dir)
      (table_info shape.size (places_of kind split info) File) table).table_at + n
      ≤ shape.size + length blocks * info.block
  unfolding places_of
  laid_fits Dir n room = room_fits (front_len split shape.size) shape.size info.block 0 (length blocks) shape.size n
      (places_of kind split info).dirs.table front_fits (omega arith) (omega (arith, h.blocks_are.count)) room
  laid_fits File n room = room_fits (front_len split shape.size) shape.size info.block
      (blocks_in_chain (places_of kind split info).dirs.table) (length blocks)
      (shape.size + blocks_in_chain (places_of kind split info).dirs.table * info.block) n
      (places_of kind split info).files.table front_fits refl (omega (arith, h.blocks_are.count)) room

  -- the buckets are those that the information names
  buckets_fit : (table : EntryKind) → HasEntryTable (laid_shape (extra_of
      (places_of kind split info).chain.region_at (places_of kind split info).chain.block blocks) shape) table
      (info_of (table_info shape.size (places_of kind split info) Dir)
      (table_info shape.size (places_of kind split info) File) table)
  unfolding places_of
  buckets_fit Dir = record {
    sound = true-can_lay (extra_of (places_of kind split info).chain.region_at
        (places_of kind split info).chain.block blocks) shape lay_at;
    first = h.first;
    some = (known.buckets Dir).least;
    buckets = omega (arith, known.buckets_inside Dir, front_fits);
    zero = laid_fits Dir (entry_size Dir) (zero_room (front_len split shape.size) info.count info.block Dir
        (places_of kind split info).dirs.table (known.tables_placed Dir) block_large);
  }
  buckets_fit File = record {
    sound = true-can_lay (extra_of (places_of kind split info).chain.region_at
        (places_of kind split info).chain.block blocks) shape lay_at;
    first = h.first;
    some = (known.buckets File).least;
    buckets = omega (arith, known.buckets_inside File, front_fits);
    zero = laid_fits File (entry_size File) (zero_room (front_len split shape.size) info.count info.block File
        (places_of kind split info).files.table (known.tables_placed File) block_large);
  }

  few_buckets : (table : EntryKind) → (info_of (table_info shape.size (places_of kind split info) Dir)
      (table_info shape.size (places_of kind split info) File) table).buckets ≤ 32768
  unfolding places_of
  few_buckets Dir = (known.buckets Dir).most
  few_buckets File = (known.buckets File).most

  audit_at : CanAudit (laid_shape (extra_of (places_of kind split info).chain.region_at
      (places_of kind split info).chain.block blocks) shape) kind split shape.size info
      (table_info shape.size (places_of kind split info) Dir) (table_info shape.size (places_of kind split info) File)
  unfolding places_of
  audit_at = record {
    tables = buckets_fit;
    few = few_buckets;
    faultless = h.faultless;
    room = λ t none table. laid_fits table ((t.table table).most * entry_size table)
        (room_of (front_len split shape.size) info.block table (t.table table)
        (table_lies (places_of kind split info) table)
        ((layout_from kind split shape.size info t none).room table));
  }

-- the same, where the places are given
module _ (shape : Shape) (kind : TreeKind) (split : Option ℕ) (info : Information) (p : Places) (blocks : List ℕ)
    (h : StandsIn shape kind split info p blocks) where
  at_places : StandsIn shape kind split info (places_of kind split info) blocks
  at_places = record {
    sound = h.sound;
    first = h.first;
    small = h.small;
    split_inside = h.split_inside;
    placed = refl;
    faultless = h.faultless;
    blocks_are = subst (λ (q : Places). AreTableBlocks q blocks) h.placed h.blocks_are;
  }

  pub can_lay : CanLay (extra_of p.chain.region_at p.chain.block blocks) shape
  can_lay = subst (λ (q : Places). CanLay (extra_of q.chain.region_at q.chain.block blocks) shape) (sym h.placed)
      (lay_at shape kind split info blocks at_places)

  pub begins_small : shape.size + blocks_in_chain p.dirs.table * p.chain.block < 2 ^ 64
  begins_small = subst (λ (q : Places). shape.size + blocks_in_chain q.dirs.table * q.chain.block < 2 ^ 64)
      (sym h.placed) (begins_at shape kind split info blocks at_places)

  pub can_audit : CanAudit (laid_shape (extra_of p.chain.region_at p.chain.block blocks) shape) kind split shape.size
      info (table_info shape.size p Dir) (table_info shape.size p File)
  can_audit = subst (λ (q : Places). CanAudit (laid_shape (extra_of q.chain.region_at q.chain.block blocks) shape) kind
      split shape.size info (table_info shape.size q Dir) (table_info shape.size q File)) (sym h.placed)
      (audit_at shape kind split info blocks at_places)

-- the cells, and behind them those of the tables' blocks, by their chains
pub laid_by : (size : ℕ) (p : Places) (chains : EntryKind → List ℕ) (blocks : List ℕ) (cells : ℕ → Cell)
    → AreBlocksOf p chains blocks
    → (λ (x : ℕ). cells (laid_place (extra_of p.chain.region_at p.chain.block blocks) size x))
    ≡ laid_cells size p chains cells
unfolding laid_cells
laid_by size p chains blocks cells are =
    ap {B = ℕ → Cell} (λ (list : List ℕ) (x : ℕ). cells (laid_place (extra_of p.chain.region_at p.chain.block list) size x)) are

-- a view over the store and the tables' blocks
module _ {S : Type 0} (states : S → State) (view : BlocksSpace S) (base : S) (p : Places) (blocks : List ℕ)
    (same_base : view.base.now ≡ base)
    (same_extra : extra_in view ≡ extra_of p.chain.region_at p.chain.block blocks) where
  pub room_in : CanLay (extra_of p.chain.region_at p.chain.block blocks) (states base).shape
      → CanLay (extra_in view) (states view.base.now).shape
  room_in room = subst (λ (e : Extra). CanLay e (states view.base.now).shape) (sym same_extra)
      (subst (λ (s : S). CanLay (extra_of p.chain.region_at p.chain.block blocks) (states s).shape) (sym same_base) room)

  pub audit_in : (kind : TreeKind) (split : Option ℕ) (info : Information) → StandsIn (states base).shape kind split
      info p blocks → CanAudit (laid states view).shape kind split (states base).shape.size info
      (table_info (states base).shape.size p Dir) (table_info (states base).shape.size p File)
  audit_in kind split info h =
      subst (λ (e : Extra). CanAudit (laid_shape e (states view.base.now).shape) kind split (states base).shape.size info
      (table_info (states base).shape.size p Dir) (table_info (states base).shape.size p File)) (sym same_extra)
      (subst (λ (s : S). CanAudit (laid_shape (extra_of p.chain.region_at p.chain.block blocks) (states s).shape) kind
      split (states base).shape.size info (table_info (states base).shape.size p Dir)
      (table_info (states base).shape.size p File)) (sym same_base)
      (can_audit (states base).shape kind split info p blocks h))

  pub told_in : IsTrue (states base).told → IsTrue (laid states view).told
  told_in told = subst (λ (s : S). IsTrue (states s).told) (sym same_base) told

  pub cells_in : (chains : EntryKind → List ℕ) → AreBlocksOf p chains blocks
      → (laid states view).cells ≡ laid_cells (states base).shape.size p chains (states base).cells
  cells_in chains are =
      ap {B = ℕ → Cell} (λ (s : S) (x : ℕ). (states s).cells (laid_place (extra_in view) (states s).shape.size x)) same_base
      ∙ ap {B = ℕ → Cell} (λ (e : Extra) (x : ℕ). (states base).cells (laid_place e (states base).shape.size x)) same_extra
      ∙ laid_by (states base).shape.size p chains blocks (states base).cells are

-- what is said of tables at their places in some cells, with other names for these
pub moved : (Q : ℕ → TableInfo → TableInfo → (ℕ → Cell) → Type 0) (p : Places) (n size : ℕ) (dirs files : TableInfo)
    (later cells : ℕ → Cell) → n ≡ size → dirs ≡ table_info n p Dir → files ≡ table_info n p File → later ≡ cells
    → Q n dirs files later → Q size (table_info size p Dir) (table_info size p File) cells
moved Q p n size dirs files later cells same is_dirs is_files are q =
    subst (λ (m : ℕ). Q m (table_info m p Dir) (table_info m p File) cells) same
    (subst (λ (x : TableInfo). Q n x (table_info n p File) cells) is_dirs
    (subst (λ (x : TableInfo). Q n dirs x cells) is_files (subst (Q n dirs files) are q)))
