use Rattle.std.proofs.Common.{◌≡◌, ◌⊎◌, ℕ, inr, [], false, true, refl, sym, subst, ◌∙◌}
use Rattle.std.proofs.lemmas.List.{append-nil}
use Rattle.array_shape.specs.declared.bad_shape.BadShape.{BadShape}
use Rattle.array_shape.specs.declared.bad_shape.ShapeNumber.TheVariants.{MediaLength}
use Rattle.array_shape.specs.declared.shape.Shape.{Shape}
use Rattle.array_shape.specs.Numbers.{IsFirstBad}
use Rattle.array_shape.specs.Places.{media_len}
use Rattle.command_words.specs.declared.words.FormatNumbers.{FormatNumbers}
use Rattle.record_slots.specs.Fresh.{fresh_page}
use Rattle.texts.specs.Written.{IsWritten}
use Rattle.mars_shell.specs.Formats.{HasAsked}
use Rattle.mars_shell.proofs.FormatLemmas.{old_or_new}
use Rattle.mars_shell.proofs.FreshRecords.{fresh_none}
use Rattle.mars_shell.proofs.formatting.run_format.Goals as goal

-- what `bad shape` says
abbrev Wrong : FormatNumbers → ℕ → BadShape → Type 0
Wrong asked size bad = IsFirstBad asked.loggers asked.numbers asked.entries asked.pages bad.which bad.given
    ⊎ ((bad.which ≡ MediaLength) × (bad.given ≡ size) × (shape : Shape) × HasAsked asked shape × (size ≡ media_len shape → ⊥))

pub returns-in-Err-BadShape-clause-says : goal.returns-in-Err-BadShape-clause-says
returns-in-Err-BadShape-clause-says g c =
    let old = g.M.Media.view c.args.media in
    let asked = c.args.asked.now in
    let wrong = rw c.in-Err-BadShape.field-0-is at c.in-Err-BadShape.ensures.bad_shape in (
      c.in-Err-BadShape.ensures.untouched (λ is. let e = sym c.in-Err-BadShape.field-0-is ∙ is in cc),
      subst (Wrong asked old.size) (sym c.in-Err-BadShape.field-0-0-is)
          (inr (wrong.0, wrong.1, c.in-Ok.shape, c.in-Ok.ensures.shape, wrong.2)),
    )

pub returns-in-Err-Media-clause-says : goal.returns-in-Err-Media-clause-says
returns-in-Err-Media-clause-says g c = ((c.in-Ok.shape, c.in-Ok.ensures.shape, rw c.in-Err-Media.field-0-is at c.in-Err-Media.ensures.bad_shape), refl)

pub returns-in-Err-Media-clause-ran : goal.returns-in-Err-Media-clause-ran
returns-in-Err-Media-clause-ran g c =
    let media = g.M.Media in
    let shape = c.in-Ok.shape in
    record {
      cut = false;
      text = [];
      wrote = λ _. sym (append-nil _);
      counts = refl;
      holds = λ told. (
        refl,
        refl,
        record {
          shape = shape;
          numbers = c.in-Ok.ensures.shape;
          cells = c.format.ensures.cells told;
          since = old_or_new media.tells told shape fresh_page (media.view c.args.media) (media.view c.format.new.media) (g.met.M.Media.only_now c.args.media) (c.format.ensures.any_moment told);
        },
      );
    }

pub returns-in-Ok-write_whole-clause-says : goal.returns-in-Ok-write_whole-clause-says
returns-in-Ok-write_whole-clause-says g c = (c.in-Ok.shape, c.in-Ok.ensures.shape, c.in-Ok-format.ensures.sized)

pub returns-in-Ok-write_whole-clause-ran : goal.returns-in-Ok-write_whole-clause-ran
returns-in-Ok-write_whole-clause-ran g c =
    let media = g.M.Media in
    let shape = c.in-Ok.shape in
    record {
      cut = false;
      text = c.as_bytes.result.now;
      wrote = c.in-Ok-write_whole.ensures.whole;
      counts = c.in-Ok-write_whole.ensures.cause.kept;
      holds = λ told. (
        refl,
        record {
          begun = record {
            shape = shape;
            numbers = c.in-Ok.ensures.shape;
            cells = c.format.ensures.cells told;
            since = old_or_new media.tells told shape fresh_page (media.view c.args.media) (media.view c.format.new.media) (g.met.M.Media.only_now c.args.media) (c.format.ensures.any_moment told);
          };
          fresh = c.in-Ok-format.ensures.fresh told;
          opens = c.in-Ok-format.ensures.opens told;
          sound = (fresh_none shape (media.view c.format.new.media).content.bytes (c.in-Ok-format.ensures.fresh told).parts.pages).0;
          none = (fresh_none shape (media.view c.format.new.media).content.bytes (c.in-Ok-format.ensures.fresh told).parts.pages).1;
          wrote = c.as_bytes.ensures ∙ c.formatted_line-line.ensures;
        },
      );
    }

pub returns-in-Err-write_whole-clause-says : goal.returns-in-Err-write_whole-clause-says
returns-in-Err-write_whole-clause-says g c = (c.in-Ok.shape, c.in-Ok.ensures.shape, c.in-Ok-format.ensures.sized)

pub returns-in-Err-write_whole-clause-ran : goal.returns-in-Err-write_whole-clause-ran
returns-in-Err-write_whole-clause-ran g c =
    let media = g.M.Media in
    let shape = c.in-Ok.shape in
    let part = c.in-Err-write_whole.ensures.part in
    record {
      cut = true;
      text = part.0;
      wrote = part.2;
      counts = c.in-Err-write_whole.ensures.cause.failed;
      holds = λ told. (
        refl,
        record {
          begun = record {
            shape = shape;
            numbers = c.in-Ok.ensures.shape;
            cells = c.format.ensures.cells told;
            since = old_or_new media.tells told shape fresh_page (media.view c.args.media) (media.view c.format.new.media) (g.met.M.Media.only_now c.args.media) (c.format.ensures.any_moment told);
          };
          fresh = c.in-Ok-format.ensures.fresh told;
          opens = c.in-Ok-format.ensures.opens told;
          sound = (fresh_none shape (media.view c.format.new.media).content.bytes (c.in-Ok-format.ensures.fresh told).parts.pages).0;
          none = (fresh_none shape (media.view c.format.new.media).content.bytes (c.in-Ok-format.ensures.fresh told).parts.pages).1;
          wrote = subst (IsWritten true part.0) (c.as_bytes.ensures ∙ c.formatted_line-line.ensures) part.1;
        },
      );
    }
