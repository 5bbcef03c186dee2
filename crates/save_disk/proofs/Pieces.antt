-- Pieces of an image as its sectors give them.
use Rattle.std.proofs.Common.{◌≡◌, ℕ, ◌+◌, ◌-◌, ◌*◌, ◌≤◌, List, ◌++◌, length, take, drop, replicate, min}
use Rattle.std.proofs.Common.{◌∙◌, ap, arith}
use Rattle.std.proofs.lemmas.List.{length-take, length-drop, take-append-le, drop-append-le, drop-take, take-take}
use Rattle.std.proofs.lemmas.List.{drop-drop}
use Rattle.save_disk.specs.Trace.{sector_cut, sector_of}

-- what a piece within a sector has, the image has at its place
pub piece_of_sector : (grain image_size : ℕ) (image : List ℕ) (sector from n at : ℕ) → length image ≡ image_size
    → sector * grain + from ≡ at → from + n ≤ grain → at + n ≤ image_size
    → take (from + n - from) (drop from (sector_of grain image sector)) ≡ take n (drop at image)
piece_of_sector grain image_size image sector from n at long place inside fits =
    let cut : List ℕ = sector_cut grain image sector in
    let size : length cut ≡ min grain (length image - sector * grain) =
    length-take grain (drop (sector * grain) image)
    ∙ ap (λ (k : ℕ). min grain k) (length-drop (sector * grain) image) in
    let whole : from + n ≤ length cut = omega arith in
    let count : from + n - from ≡ n = omega arith in
    let zeros : List ℕ = replicate (grain - length cut) 0 in
    let first : drop from (cut ++ zeros) ≡ drop from cut ++ zeros = drop-append-le from cut zeros (omega arith) in
    let second : take n (drop from cut ++ zeros) ≡ take n (drop from cut) =
    take-append-le n (drop from cut) zeros (omega (arith, length-drop from cut)) in
    let split : grain ≡ from + (grain - from) = omega arith in
    let third : drop from cut ≡ take (grain - from) (drop from (drop (sector * grain) image)) =
    ap (λ (k : ℕ). drop from (take k (drop (sector * grain) image))) split
    ∙ drop-take from (grain - from) (drop (sector * grain) image) in
    let fourth : take n (take (grain - from) (drop from (drop (sector * grain) image))) ≡ take n
    (drop from (drop (sector * grain) image)) =
    take-take n (grain - from) (drop from (drop (sector * grain) image)) (omega arith) in
    let fifth : drop from (drop (sector * grain) image) ≡ drop at image = drop-drop from (sector * grain) image
    ∙ ap (λ (k : ℕ). drop k image) place in
    ap (λ (k : ℕ). take k (drop from (sector_of grain image sector))) count
    ∙ ap (λ (l : List ℕ). take n l) first
    ∙ second
    ∙ ap (λ (l : List ℕ). take n l) third
    ∙ fourth
    ∙ ap (λ (l : List ℕ). take n l) fifth
