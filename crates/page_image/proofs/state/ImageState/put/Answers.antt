use Rattle.std.proofs.Common.{refl}
use Rattle.page_image.proofs.FrameLemmas.{held_frame}
use Rattle.page_image.proofs.StateLemmas.{marks_fit, image_put}
use Rattle.page_image.proofs.state.ImageState.put.Goals as goal

pub set_marks-requires : goal.set_marks-requires
set_marks-requires c =
    let i = c.args.self.now in
    marks_fit i i refl refl refl refl c.args.at c.args.piece.now c.requires.some c.requires.inside c.requires.in_page
    c.requires.there
    c.byte_at-start.result c.byte_at-start.ensures.is c.end_sector-end.result c.mark_at-first_mark.result
    c.end_sector-end.ensures
    c.mark_at-first_mark.ensures.is i.layout.eight (held_frame i _ c.requires.there)

pub returns : goal.returns
returns c =
    image_put c.args.self.now _ refl refl refl refl c.args.at c.args.piece.now c.requires.some c.requires.inside
    c.requires.in_page c.requires.there
    c.byte_at-start.result c.byte_at-start.ensures.is c.end_sector-end.result c.mark_at-first_mark.result
    c.end_sector-end.ensures
    c.mark_at-first_mark.ensures.is c.set_marks.ensures.within c.set_marks.ensures.before c.set_marks.ensures.behind
    (record { len = refl; grain = refl; header = refl; frames = refl; slots = refl })
    c.write_part.ensures.within c.write_part.ensures.before c.write_part.ensures.behind
