use Rattle.std.proofs.Common.{◌≡◌, ◌/◌, ◌<◌, ℕ, true, false, List, [], length, refl, sym, ◌∙◌, ap, subst, arith}
use Rattle.std.specs.Prelude.{OnOk, count_by, slice_index}
use Rattle.std.proofs.lemmas.Result.{err_from_is_err_and}
use Rattle.mars_base.specs.Bytes.{range}
use Rattle.mars_base.specs.Costs.{Costs}
use Rattle.mars_base.proofs.Costing.{costs_all, costs_err, costs_then, once}
use Rattle.pcm_media.proofs.Left.{same_bytes}
use Rattle.array_shape.specs.Places.{IsPlaced}
use Rattle.array_shape.specs.Logged.{applied, ranges_of}
use Rattle.array_shape.specs.NumberSet.{has}
use Rattle.array_image.specs.Image.{data_of}
use Rattle.array_image.proofs.Calls.{ends_with, goes_on, hands_on, none_yet}
use Rattle.array_image.proofs.Data.{length-data_of}
use Rattle.write_back.specs.Entries.{parts_in, ranges_in}
use Rattle.write_back.specs.Reading.{meets}
use Rattle.write_back.specs.Kept.{lies_on}
use Rattle.write_back.specs.Shown.{entries_of}
use Rattle.write_back.specs.Turns.{in_turn, parts_in_turn}
use Rattle.write_back.proofs.Away.{turn_away, turn_count}
use Rattle.write_back.proofs.Filling.{part_fits, part_read}
use Rattle.write_back.proofs.Marking.{none_set}
use Rattle.write_back.proofs.deferred.DeferredParts.read_part.Goals as goal

pub read-requires : goal.read-requires
read-requires g c = omega (arith, part_fits c.args.self.now.shape c.args.part c.requires.part, c.byte_at.ensures, c.requires.len, c.requires.size)

pub lay_queue-requires : goal.lay_queue-requires
lay_queue-requires g c =
    let m = g.M.Media in
    let s = c.args.self.now in
    let long : length c.read.new.buf ≡ c.args.part.len = c.read.auto.buf ∙ c.requires.len in
    record {
      size = c.in_ok-read.ensures.does.size ∙ c.requires.size;
      page = subst (IsPlaced s.shape c.args.part.addr) (sym long) c.requires.part.placed;
      mask = λ t lt. ap (λ (k : ℕ). has k t) (c.mask_at-mask.ensures ∙ (λ i. slice_index (c.deref.ensures.value i) (c.page_of.ensures i))) ∙ s.kept.marked (c.args.part.addr / 512) t lt;
      held = λ told t lt.
          subst (λ (image : List ℕ). ranges_of (parts_in s.shape image t (entries_of s t)) ≡ ranges_in (entries_of s t))
          (sym (same_bytes (m.view c.args.media.now).content (m.view c.read.new.self).content (c.in_ok-read.ensures.does.touched told)))
          (c.requires.held told t lt);
    }

pub returns-in_err-read : goal.returns-in_err-read
returns-in_err-read g c =
    let m = g.M.Media in
    let p = err_from_is_err_and c.from_residual.result c.from_residual.ensures.1 in
    rw p.1 (record {
      bytes = λ told. tt;
      costs = costs_err true _ _ _ _ refl (omega (arith, c.in_err-read.ensures.ticks.next));
      does = hands_on m.tells [] [] _ _ _ (λ told i out. out) (none_yet m.tells [] (m.view c.args.media.now)) _ refl c.in_err-read.ensures.does;
    })

pub returns-then-mask-eq0 : goal.returns-then-mask-eq0
returns-then-mask-eq0 g c =
    let m = g.M.Media in
    let s = c.args.self.now in
    let part = c.args.part in
    let image = (m.view c.args.media.now).content.bytes in
    let off : (t : ℕ) → t < s.shape.numbers → lies_on (c.args.part.addr / 512) (entries_of c.args.self.now t) ≡ false =
    λ t lt.
    sym (s.kept.marked (c.args.part.addr / 512) t (omega (arith, lt, s.shape.in_range.most_numbers)))
    ∙ ap (λ (k : ℕ). has k t) (sym (c.mask_at-mask.ensures ∙ (λ i. slice_index (c.deref.ensures.value i) (c.page_of.ensures i))) ∙ c.if-mask-eq0.true)
    ∙ none_set t in
    record {
      bytes = λ told.
          let at = c.byte_at.ensures in
          let len = c.requires.len in
          c.in_ok-read.ensures.bytes told
          ∙ (λ i. range image (at i) (len i))
          ∙ part_read s.shape image part (g.met.M.Media.long c.args.media.now told ∙ c.requires.size) c.requires.part
          ∙ sym (turn_away s.shape image (entries_of s) (c.requires.held told) s.kept.entries part.addr part.len c.requires.part.placed.page c.args.queue.now (data_of s.shape image) (length-data_of s.shape image) off);
      costs = costs_all true _ _ _ _ (omega (arith, c.in_ok-read.ensures.ticks.next, c.in_ok-read.ensures.ticks.last, turn_count s.shape (entries_of s) s.kept.entries part.addr part.len c.requires.part.placed.page c.args.queue.now off));
      does = c.in_ok-read.ensures.does;
    }

pub returns : goal.returns
returns g c =
    let m = g.M.Media in
    let s = c.args.self.now in
    let part = c.args.part in
    let image = (m.view c.args.media.now).content.bytes in
    let long : length c.read.new.buf ≡ c.args.part.len = c.read.auto.buf ∙ c.requires.len in
    record {
      bytes = λ told.
          let at = c.byte_at.ensures in
          let len = c.requires.len in
          let same = same_bytes (m.view c.args.media.now).content (m.view c.read.new.self).content (c.in_ok-read.ensures.does.touched told) in
          let got : c.read.new.buf ≡ range (data_of s.shape image) c.args.part.addr c.args.part.len =
          c.in_ok-read.ensures.bytes told ∙ (λ i. range image (at i) (len i)) ∙ part_read s.shape image part (g.met.M.Media.long c.args.media.now told ∙ c.requires.size) c.requires.part in
          let laid = c.lay_queue.ensures.bytes told (data_of s.shape image) (length-data_of s.shape image) (got ∙ ap (range (data_of s.shape image) part.addr) (sym long)) in
          subst (λ (now : List ℕ). OnOk c.lay_queue.result (c.lay_queue.new.buf ≡ range (applied (parts_in_turn s.shape now (entries_of s) c.args.queue.now) (data_of s.shape image)) part.addr part.len)) same
          (subst (λ (k : ℕ). OnOk c.lay_queue.result (c.lay_queue.new.buf ≡ range (applied (parts_in_turn s.shape (m.view c.read.new.self).content.bytes (entries_of s) c.args.queue.now) (data_of s.shape image)) part.addr k)) long laid);
      costs = costs_then true _ 1 _ _ _ _ _ refl (once true _ _ _ c.in_ok-read.ensures.ticks)
          (subst (λ (k : ℕ). Costs true (count_by (meets part.addr k) (in_turn s.shape (entries_of s) c.args.queue.now)) (m.view c.read.new.self).moment (m.view c.lay_queue.new.media).moment c.lay_queue.result) long c.lay_queue.ensures.costs);
      does = ends_with m.tells [] [] _ _ _ (λ told i out. tt) (goes_on m.tells [] [] _ _ _ (λ told i out. tt) (none_yet m.tells [] (m.view c.args.media.now)) c.in_ok-read.ensures.does refl) c.lay_queue.result c.lay_queue.ensures.does;
    }
