-- What a command answers, as a function of the image.
use Rattle.std.specs.Prelude.{◌≡◌, ℕ, nat_lt, List, Option, Some, None, Result, Ok, Err, if◌then◌else◌}
use Rattle.container_header.specs.declared.header.Header.{Header}
use Rattle.container_header.specs.declared.fault.HeaderFault.{HeaderFault}
use Rattle.container_header.specs.Conditions.{reading}
use Rattle.difi.specs.declared.descriptor.Difi.{Difi}
use Rattle.difi.specs.declared.fault.DifiFault.{DifiFault}
use Rattle.difi.specs.Places.{blocks_of}
use Rattle.ivfc_tree.specs.declared.path.BlockState.{BlockState}
use Rattle.ivfc_tree.specs.declared.path.BlockState.TheVariants.{Good, Blank, Bad}
use Rattle.ivfc_tree.specs.Levels.{block_bytes}
use Rattle.container.specs.Signers.{Signing}
use Rattle.container.specs.declared.fault.OpenFault.{OpenFault}
use Rattle.container.specs.Openings.{active_table, part_reading, fault_of}
use Rattle.container.specs.ImageCells.{contents_in, path_in}
use Rattle.save_top.specs.declared.form.Order.{Order}
use Rattle.save_top.specs.declared.form.Act.{Act}
use Rattle.save_top.specs.declared.form.Act.TheVariants.{Info, Peek}
use Rattle.save_top.specs.Output.{Reply, done, refused}
use Rattle.save_top.specs.Texts.{info_text, fault_line, difi_line, open_fault_line, no_part_line, no_block_line, damaged_line, block_text}

-- what is said of a block of level four, by what its hash path comes to
abbrev pub block_reply : List ℕ → Header → ℕ → Difi → ℕ → BlockState → Reply
block_reply image header part difi block Good = done (block_text part block (block_bytes (contents_in image header part difi) difi 4 block))
block_reply image header part difi block (Blank level at) = refused (damaged_line part level at)
block_reply image header part difi block (Bad level at) = refused (damaged_line part level at)

-- of a block of a part with this descriptor
abbrev pub part_reply : List ℕ → Header → ℕ → ℕ → Result Difi DifiFault → Reply
part_reply image header part block (Ok difi) =
    if nat_lt block (blocks_of difi.ivfc4)
    then block_reply image header part difi block (path_in image header part difi 4 block)
    else refused (no_block_line (blocks_of difi.ivfc4))
part_reply image header part block (Err fault) = refused (difi_line part fault)

-- of a block of an image with this header
abbrev pub peek_reply : List ℕ → Header → ℕ → ℕ → Reply
peek_reply image header part block =
    if nat_lt part header.parts
    then part_reply image header part block (part_reading (active_table image header) header part)
    else refused (no_part_line header.parts)

abbrev pub act_reply : Act → List ℕ → Result Header HeaderFault → Reply
act_reply Info image (Ok header) = done (info_text header)
act_reply (Peek part block) image (Ok header) = peek_reply image header part block
act_reply act image (Err fault) = refused (fault_line fault)

-- an image that does not open is refused with its first fault
abbrev pub reply_by : Option OpenFault → Act → List ℕ → Reply
reply_by (Some fault) act image = refused (open_fault_line fault)
reply_by None act image = act_reply act image (reading image)

-- what a command answers on an image, under a signer
abbrev pub reply_to : Signing → Order → List ℕ → Reply
reply_to sign order image = reply_by (fault_of sign image) order.act image

-- the reply to a command is this one
abbrev pub IsReplyTo : Signing → Order → List ℕ → Reply → Type 0
IsReplyTo sign order image reply = reply ≡ reply_to sign order image
