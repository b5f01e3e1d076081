use Rattle.std.proofs.Common.{refl, arith, ◌≡◌, ◌∙◌, sym, length}
use Rattle.mars_base.proofs.Going.{stays}
use Rattle.array_shape.specs.Places.{media_len}
use Rattle.eaw_device.specs.Made.{IsOldOrNew}
use Rattle.eaw_device.proofs.NewArrays.{made_opens, settled_as_read}
use Rattle.eaw_device.proofs.making.make.Goals as goal

pub returns-then-given-media_len : goal.returns-then-given-media_len
returns-then-given-media_len g c =
    let now = g.M.Media.view c.args.media.now in
    record {
      made = λ told. tt;
      sure = λ told. tt;
      opens = λ told. tt;
      any_moment = λ told. stays now.moment now.left_since (IsOldOrNew c.args.shape.now (g.P.PageSource.pages c.args.source.now) now.content);
      cells = λ told h t e below below' below''. refl;
      sized = tt;
      bad_shape = (refl, c.len-given.ensures, λ is. c.if-given-media_len.true (c.len-given.ensures ∙ is ∙ sym c.media_len.ensures));
      untouched = λ ne. refl;
      media = λ is. cc;
      kept = tt;
      size = refl;
      later = omega arith;
    }

pub returns-in-Ok : goal.returns-in-Ok
returns-in-Ok g c =
    let new = g.M.Media.view c.write_array.new.media in
    let done = c.in-Ok.ensures in
    let sized = sym c.len-given.ensures ∙ c.if-given-media_len.false ∙ c.media_len.ensures in
    record {
      made = done.made;
      sure = λ told. settled_as_read new.content (done.made told).settled;
      opens = λ told.
          let long : length new.content.bytes ≡ media_len c.args.shape.now = g.met.M.Media.long c.write_array.new.media told ∙ done.does.size ∙ sized in
          made_opens c.args.shape.now (g.P.PageSource.pages c.args.source.now) new.content long (done.made told);
      any_moment = done.any_moment;
      cells = done.cells;
      sized = sized;
      bad_shape = tt;
      untouched = tt;
      media = λ is. cc;
      kept = done.does.cause.kept;
      size = done.does.size;
      later = done.does.cause.later;
    }

pub returns-in-Err : goal.returns-in-Err
returns-in-Err g c =
    let failed = c.in-Err.ensures in
    record {
      made = λ told. tt;
      sure = λ told. tt;
      opens = λ told. tt;
      any_moment = failed.any_moment;
      cells = failed.cells;
      sized = tt;
      bad_shape = sym c.len-given.ensures ∙ c.if-given-media_len.false ∙ c.media_len.ensures;
      untouched = λ ne. absurd (ne refl);
      media = λ is. failed.does.cause.failed;
      kept = tt;
      size = failed.does.size;
      later = failed.does.cause.later;
    }
