-- In which bucket an entry is found.
use Rattle.std.specs.Prelude.{ℕ, ◌*◌, ◌%◌, List, bit_xor}
use Rattle.std.specs.Int.{rotate_right, w32}
use Rattle.save_bytes.specs.Fields.{number_at}

-- a word is taken into a hash: the hash is rotated right by one bit, as a number of 32 bits, and the word's bits turn its own
abbrev pub with_word : ℕ → ℕ → ℕ
with_word hash word = bit_xor (rotate_right w32 hash 1) word

-- word i of a name, the lowest byte first
abbrev pub name_word : List ℕ → ℕ → ℕ
name_word name i = number_at 4 name (4 * i)

-- the hash of a parent and a name: its four words are taken in
unfoldable pub name_hash : ℕ → List ℕ → ℕ
name_hash parent name =
    with_word (with_word (with_word (with_word (bit_xor parent 0x091A2B3C) (name_word name 0)) (name_word name 1)) (name_word name 2)) (name_word name 3)

-- the bucket, of so many, of a parent and a name
abbrev pub bucket_number : ℕ → List ℕ → ℕ → ℕ
bucket_number parent name count = name_hash parent name % count
