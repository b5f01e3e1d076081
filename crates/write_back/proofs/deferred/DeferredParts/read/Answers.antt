use Rattle.std.proofs.Common.{◌≡◌, ◌+◌, ℕ, true, List, [], length, refl, sym, ◌∙◌, ap, subst, arith}
use Rattle.std.specs.Prelude.{All, count_by}
use Rattle.std.proofs.lemmas.Result.{err_from_is_err_and}
use Rattle.mars_base.specs.Bytes.{range}
use Rattle.mars_base.proofs.Costing.{costs_all, costs_err}
use Rattle.pcm_media.proofs.Left.{same_bytes}
use Rattle.array_shape.specs.declared.part.Part.{Part}
use Rattle.array_shape.specs.Parts.{AreCutAtPages, IsPartOf, Tile}
use Rattle.array_shape.specs.Logged.{applied, ranges_of}
use Rattle.array_image.specs.Image.{data_of}
use Rattle.array_image.proofs.Calls.{none_yet, goes_on, hands_on}
use Rattle.array_image.proofs.Data.{length-data_of}
use Rattle.write_back.specs.Entries.{IsEntry, parts_in, ranges_in}
use Rattle.write_back.specs.Reading.{meets, read_calls}
use Rattle.write_back.specs.Shown.{entries_of}
use Rattle.write_back.specs.Turns.{in_turn, parts_in_turn}
use Rattle.write_back.proofs.Away.{length_laid, turn_placed}
use Rattle.write_back.proofs.Filling.{calls_here, calls_last, fills_first, fills_last, fills_one, here_len, within_here}
use Rattle.write_back.proofs.Turning.{all_in_turn}
use Rattle.write_back.proofs.deferred.DeferredParts.read.Goals as goal

pub read_part-requires : goal.read_part-requires
read_part-requires g c =
    let m = g.M.Media in
    let s = c.args.self.now in
    let image = (m.view c.args.media.now).content.bytes in
    let es = in_turn s.shape (entries_of s) c.args.queue.now in
    let each : All (IsEntry s.shape) es = all_in_turn s.shape (IsEntry s.shape) (entries_of s) c.args.queue.now s.kept.entries in
    let whole = applied (parts_in_turn s.shape image (entries_of s) c.args.queue.now) (data_of s.shape image) in
    let all = (m.view c.args.media.now).moment + read_calls s.shape (entries_of s) c.args.queue.now c.args.addr (length c.args.buf.now) in
    let fills = c.loop-part.invariant.fills in
    record {
      size = c.loop-part.invariant.does.size ∙ c.requires.size;
      part = within_here s.shape c.args.addr (length c.args.buf.now) whole m.tells es each all c.loop-part.buf (m.view c.loop-part.media).moment c.loop-part.part-iterator c.next.new.self c.in-Some.part c.in-Some.ensures.steps fills;
      len = here_len s.shape c.args.addr (length c.args.buf.now) whole m.tells es each all c.loop-part.buf (m.view c.loop-part.media).moment c.loop-part.part-iterator c.next.new.self c.in-Some.part c.in-Some.ensures.steps fills c.loop-part.auto.buf c.from.result c.from.ensures;
      held = λ told t lt.
          subst (λ (now : List ℕ). ranges_of (parts_in s.shape now t (entries_of s t)) ≡ ranges_in (entries_of s t))
          (sym (same_bytes (m.view c.args.media.now).content (m.view c.loop-part.media).content (c.loop-part.invariant.does.touched told)))
          (c.requires.held told t lt);
    }

pub loop-part-init : goal.loop-part-init
loop-part-init g c =
    let m = g.M.Media in
    let s = c.args.self.now in
    let image = (m.view c.args.media.now).content.bytes in
    let len = length c.args.buf.now in
    let es = in_turn s.shape (entries_of s) c.args.queue.now in
    let each : All (IsEntry s.shape) es = all_in_turn s.shape (IsEntry s.shape) (entries_of s) c.args.queue.now s.kept.entries in
    let whole = applied (parts_in_turn s.shape image (entries_of s) c.args.queue.now) (data_of s.shape image) in
    let all = (m.view c.args.media.now).moment + read_calls s.shape (entries_of s) c.args.queue.now c.args.addr len in
    let parts = c.parts-part-items.ensures in
    let from = c.into_iter-part-iterator.ensures.into_iter_gives ∙ parts.parts in
    record {
      does = none_yet m.tells [] (m.view c.args.media.now);
      fills = fills_first s.shape c.args.addr len whole m.tells es each all c.args.buf.now (m.view c.args.media.now).moment c.into_iter-part-iterator.result
          (subst (All (IsPartOf s.shape)) (sym from) parts.placed) (subst (Tile c.args.addr len) (sym from) parts.tile) (subst AreCutAtPages (sym from) parts.cut)
          (ap (λ (ps : List Part). (m.view c.args.media.now).moment + (length ps + count_by (meets c.args.addr len) es)) from);
    }

pub loop-part-preserved : goal.loop-part-preserved
loop-part-preserved g c =
    let m = g.M.Media in
    let s = c.args.self.now in
    let image = (m.view c.args.media.now).content.bytes in
    let now = (m.view c.loop-part.media).content.bytes in
    let len = length c.args.buf.now in
    let es = in_turn s.shape (entries_of s) c.args.queue.now in
    let each : All (IsEntry s.shape) es = all_in_turn s.shape (IsEntry s.shape) (entries_of s) c.args.queue.now s.kept.entries in
    let whole = applied (parts_in_turn s.shape image (entries_of s) c.args.queue.now) (data_of s.shape image) in
    let all = (m.view c.args.media.now).moment + read_calls s.shape (entries_of s) c.args.queue.now c.args.addr len in
    let so_far = c.loop-part.invariant in
    record {
      does = goes_on m.tells _ _ _ _ _ (λ told i out. tt) so_far.does c.in_ok-read_part.ensures.does refl;
      fills = fills_one s.shape c.args.addr len whole m.tells es each all c.loop-part.buf (m.view c.loop-part.media).moment c.loop-part.part-iterator c.next.new.self c.in-Some.part c.in-Some.ensures.steps so_far.fills c.loop-part.auto.buf
          (λ told. omega (arith, c.requires.range, length_laid s.shape (parts_in_turn s.shape image (entries_of s) c.args.queue.now) (data_of s.shape image) (turn_placed s.shape image (entries_of s) (c.requires.held told) s.kept.entries c.args.queue.now) (length-data_of s.shape image)))
          c.read_part.new.buf _ (m.view c.read_part.new.media).moment (c.in_ok-read_part.ensures.costs.done refl)
          (λ told.
          let same : now ≡ image = same_bytes (m.view c.args.media.now).content (m.view c.loop-part.media).content (so_far.does.touched told) in
          c.in_ok-read_part.ensures.bytes told
          ∙ ap (λ (old : List ℕ). range (applied (parts_in_turn s.shape old (entries_of s) c.args.queue.now) (data_of s.shape old)) c.in-Some.part.addr c.in-Some.part.len) same);
    }

pub returns-in_err-read_part : goal.returns-in_err-read_part
returns-in_err-read_part g c =
    let m = g.M.Media in
    let s = c.args.self.now in
    let image = (m.view c.args.media.now).content.bytes in
    let len = length c.args.buf.now in
    let es = in_turn s.shape (entries_of s) c.args.queue.now in
    let each : All (IsEntry s.shape) es = all_in_turn s.shape (IsEntry s.shape) (entries_of s) c.args.queue.now s.kept.entries in
    let whole = applied (parts_in_turn s.shape image (entries_of s) c.args.queue.now) (data_of s.shape image) in
    let all = (m.view c.args.media.now).moment + read_calls s.shape (entries_of s) c.args.queue.now c.args.addr len in
    let fills = c.loop-part.invariant.fills in
    let p = err_from_is_err_and c.from_residual.result c.from_residual.ensures.1 in
    rw p.1 (record {
      bytes = λ told. tt;
      costs = costs_err true _ _ _ _ refl (omega (
        arith,
        c.in_err-read_part.ensures.costs.most,
        fills.calls,
        calls_here s.shape c.args.addr len whole m.tells es each all c.loop-part.buf (m.view c.loop-part.media).moment c.loop-part.part-iterator c.next.new.self c.in-Some.part c.in-Some.ensures.steps fills,
      ));
      does = hands_on m.tells [] [] _ _ _ (λ told i out. out) c.loop-part.invariant.does _ refl c.in_err-read_part.ensures.does;
    })

pub returns : goal.returns
returns g c =
    let m = g.M.Media in
    let s = c.args.self.now in
    let image = (m.view c.args.media.now).content.bytes in
    let len = length c.args.buf.now in
    let es = in_turn s.shape (entries_of s) c.args.queue.now in
    let each : All (IsEntry s.shape) es = all_in_turn s.shape (IsEntry s.shape) (entries_of s) c.args.queue.now s.kept.entries in
    let whole = applied (parts_in_turn s.shape image (entries_of s) c.args.queue.now) (data_of s.shape image) in
    let all = (m.view c.args.media.now).moment + read_calls s.shape (entries_of s) c.args.queue.now c.args.addr len in
    let so_far = c.loop-part.invariant in
    record {
      bytes = λ told. fills_last s.shape c.args.addr len whole m.tells es each all c.loop-part.buf (m.view c.loop-part.media).moment c.loop-part.part-iterator c.in-None.ensures.steps.0 so_far.fills c.loop-part.auto.buf
          (omega (arith, c.requires.range, length_laid s.shape (parts_in_turn s.shape image (entries_of s) c.args.queue.now) (data_of s.shape image) (turn_placed s.shape image (entries_of s) (c.requires.held told) s.kept.entries c.args.queue.now) (length-data_of s.shape image))) told;
      costs = costs_all true _ _ _ _ (calls_last s.shape c.args.addr len whole m.tells es each all c.loop-part.buf (m.view c.loop-part.media).moment c.loop-part.part-iterator c.in-None.ensures.steps.0 so_far.fills);
      does = record { size = so_far.does.size; device = so_far.does.device; cause = record { later = so_far.does.cause.later; failed = tt; kept = so_far.does.cause.kept }; touched = so_far.does.touched; time = so_far.does.time };
    }
