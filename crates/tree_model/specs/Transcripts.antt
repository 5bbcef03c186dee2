-- What a run says: its replies as they are printed, and how said bytes are cut into replies.
use Rattle.std.specs.Prelude.{◌≡◌, ◌≢◌, ℕ, zero, suc, ◌<◌, ◌^◌, bytes_eq, Bool, List, [], ◌∷◌, ◌++◌, length, take, true}
use Rattle.std.specs.Prelude.{false}
use Rattle.std.specs.Prelude.{codes}
use Rattle.std.specs.List.{flat_map, count_by}
use Rattle.save_bytes.specs.Paths.{path_text}
use Rattle.tree_model.specs.declared.listing.Row.{Row}
use Rattle.tree_model.specs.declared.listing.Row.TheVariants.{Dir, File, Link}
use Rattle.tree_model.specs.Lines.{number_text, refusal_line, named_line}
use Rattle.tree_model.specs.Answers.{TreeReply, Rows, RoomIs, FileIs, Done, Refused}
use Rattle.tree_model.specs.Commands.{Lacks}

-- a reply of a run: what a tree answers, how many commits there were, or why the script went no further
pub data Reply : Type 0 where
  Answered : (reply : TreeReply) → Reply
  Committed : (count : ℕ) → Reply
  Aborted : Reply
  Ended : Reply
  BadLine : (number : ℕ) → Reply
  EarlyEnd : Reply
  LongScript : Reply

-- ---- replies as they are printed

-- a name and a number
abbrev pub counted_line : List ℕ → ℕ → List ℕ
counted_line name n = name ++ number_text n ++ codes "\n"

abbrev pub row_line : Row → List ℕ
row_line (Dir path) = codes "dir " ++ path_text path ++ codes "\n"
row_line (File path size) = counted_line (codes "file " ++ path_text path) size
row_line (Link path id) = counted_line (codes "link " ++ path_text path) id

abbrev pub answer_text : TreeReply → List ℕ
answer_text (Rows rows) = counted_line (codes "rows") (length rows) ++ flat_map row_line rows
answer_text (RoomIs room) =
    codes "room" ++ flat_map number_text (room.blocks ∷ room.dirs ∷ room.files ∷ []) ++ codes "\n"
answer_text (FileIs bytes) = counted_line (codes "data") (length bytes) ++ bytes
answer_text Done = codes "ok\n"
answer_text (Refused refusal) = refusal_line refusal

abbrev pub reply_text : Reply → List ℕ
reply_text (Answered reply) = answer_text reply
reply_text (Committed count) = counted_line (codes "committed") count
reply_text Aborted = codes "aborted\n"
reply_text Ended = codes "ended\n"
reply_text (BadLine number) = named_line (codes "ScriptLine") (number ∷ [])
reply_text EarlyEnd = named_line (codes "EarlyEnd") []
reply_text LongScript = named_line (codes "ScriptLong") []

abbrev pub transcript : List Reply → List ℕ
transcript = flat_map reply_text

-- ---- said bytes, cut into replies

-- bytes without a line feed, and then one
pub record IsLine (line : List ℕ) : Type 0 where
  pub content : List ℕ
  pub lacks : Lacks 10 content
  pub is : line ≡ content ++ 10 ∷ []

-- so many lines behind one another
abbrev pub AreLines : ℕ → List ℕ → Type 0
AreLines zero text = text ≡ []
AreLines (suc n) text = (line : List ℕ) × (rest : List ℕ) × IsLine line × AreLines n rest × (text ≡ line ++ rest)

-- a whole reply: `data N` and N bytes, `rows N` and N lines, or another line
pub data IsWholeReply : List ℕ → Type 0 where
  WithBytes : (bytes : List ℕ) → length bytes < 2 ^ 64
      → IsWholeReply (counted_line (codes "data") (length bytes) ++ bytes)
  WithLines : (n : ℕ) (lines : List ℕ) → n < 2 ^ 64 → AreLines n lines
      → IsWholeReply (counted_line (codes "rows") n ++ lines)
  Alone : (line : List ℕ) → IsLine line → ((n : ℕ) → n < 2 ^ 64 → line ≢ counted_line (codes "data") n)
      → ((n : ℕ) → n < 2 ^ 64 → line ≢ counted_line (codes "rows") n) → IsWholeReply line

-- whole replies, and bytes at whose front stands none
pub data IsCut : List ℕ → List (List ℕ) → List ℕ → Type 0 where
  NoReply : (rest : List ℕ) → ((front behind : List ℕ) → IsWholeReply front → rest ≢ front ++ behind)
      → IsCut rest [] rest
  OneReply : (reply said : List ℕ) (replies : List (List ℕ)) (rest : List ℕ) → IsWholeReply reply
      → IsCut said replies rest → IsCut (reply ++ said) (reply ∷ replies) rest

-- a reply is a `committed` line
abbrev pub is_commit : List ℕ → Bool
is_commit reply = bytes_eq (take 10 reply) (codes "committed ")

-- so many commits are acknowledged by said bytes: so many of their whole replies are `committed` lines
pub record IsAcknowledged (said : List ℕ) (count : ℕ) : Type 0 where
  pub replies : List (List ℕ)
  pub rest : List ℕ
  pub cut : IsCut said replies rest
  pub counts : count ≡ count_by is_commit replies

-- what a reading of its text can tell: its bytes or rows are as many as a number of eight bytes says
abbrev pub IsPrintable : Reply → Type 0
IsPrintable (Answered (FileIs bytes)) = length bytes < 2 ^ 64
IsPrintable (Answered (Rows rows)) = length rows < 2 ^ 64
IsPrintable reply = Unit {0}

abbrev pub is_committed : Reply → Bool
is_committed (Committed count) = true
is_committed reply = false
