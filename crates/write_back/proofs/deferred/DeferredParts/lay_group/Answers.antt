use Rattle.std.proofs.Common.{◌≡◌, ◌+◌, ℕ, true, cond, List, [], length, refl, sym, ◌∙◌, ap, subst, arith}
use Rattle.std.specs.Prelude.{count_by}
use Rattle.std.proofs.lemmas.List.Sums.{sum_by-append}
use Rattle.mars_base.specs.Bytes.{range}
use Rattle.mars_base.proofs.Costing.{costs_all, costs_err}
use Rattle.pcm_media.proofs.Left.{same_bytes}
use Rattle.array_shape.specs.Logged.{Part, applied, ranges_of}
use Rattle.array_shape.specs.NumberSet.{has}
use Rattle.array_image.specs.Joined.{joined}
use Rattle.array_image.proofs.Calls.{goes_on}
use Rattle.write_back.specs.declared.entry.Entry.{Entry}
use Rattle.write_back.specs.Entries.{parts_in, ranges_in}
use Rattle.write_back.specs.Shown.{entries_of}
use Rattle.write_back.specs.Reading.{meets}
use Rattle.write_back.proofs.Away.{count_front, group_away, group_count, length_laid, none_off, some_placed}
use Rattle.write_back.proofs.Laying.{laid_more}
use Rattle.write_back.proofs.Turning.{joined_push}
use Rattle.write_back.proofs.deferred.DeferredParts.lay_group.Goals as goal

pub returns-then-numbers-eq0-clause-bytes : goal.returns-then-numbers-eq0-clause-bytes
returns-then-numbers-eq0-clause-bytes g c told whole long was =
    let s = c.args.self.now in
    let image = (g.M.Media.view c.args.media.now).content.bytes in
    was ∙ sym (group_away s.shape image (entries_of s) (c.requires.held told) s.kept.entries c.args.addr (length c.args.buf.now) c.requires.page.page c.args.group whole long
    (λ t lt. none_off (entries_of s) c.args.addr c.args.group c.args.numbers c.if-numbers-eq0.true c.requires.numbers t (omega (arith, lt, s.shape.in_range.most_numbers))))

pub returns-then-numbers-eq0-clause-costs : goal.returns-then-numbers-eq0-clause-costs
returns-then-numbers-eq0-clause-costs g c =
    let s = c.args.self.now in
    costs_all true _ _ _ _ (omega (
      arith,
      group_count s.shape (entries_of s) s.kept.entries c.args.addr (length c.args.buf.now) c.requires.page.page c.args.group
          (λ t lt. none_off (entries_of s) c.args.addr c.args.group c.args.numbers c.if-numbers-eq0.true c.requires.numbers t (omega (arith, lt, s.shape.in_range.most_numbers))),
    ))

pub lay_number-requires-clause-held : goal.lay_number-requires-clause-held
lay_number-requires-clause-held g c told t lt =
    let m = g.M.Media in
    let s = c.args.self.now in
    subst (λ (image : List ℕ). ranges_of (parts_in s.shape image t (entries_of s t)) ≡ ranges_in (entries_of s t))
    (sym (same_bytes (m.view c.args.media.now).content (m.view c.loop-tid.media).content (c.loop-tid.invariant.does.touched told)))
    (c.requires.held told t lt)

pub returns-in_err-lay_number-clause-costs : goal.returns-in_err-lay_number-clause-costs
returns-in_err-lay_number-clause-costs g c =
    let s = c.args.self.now in
    let t = c.loop-tid.tid in
    let n = length c.args.buf.now in
    let f : ℕ → List Entry = λ u. cond (has c.args.group u) (entries_of s u) [] in
    let here : count_by (meets c.args.addr (length c.loop-tid.buf)) (cond (has c.args.group c.loop-tid.tid) (entries_of c.args.self.now c.loop-tid.tid) []) ≡ count_by (meets c.args.addr (length c.args.buf.now)) (cond (has c.args.group c.loop-tid.tid) (entries_of c.args.self.now c.loop-tid.tid) []) =
    ap (λ (k : ℕ). count_by (meets c.args.addr k) (cond (has c.args.group c.loop-tid.tid) (entries_of c.args.self.now c.loop-tid.tid) [])) c.loop-tid.auto.buf in
    costs_err true _ _ _ _ c.from_residual.ensures.0 (omega (
      arith,
      c.in_err-lay_number.ensures.costs.most,
      here,
      c.loop-tid.invariant.costs,
      ap (count_by (meets c.args.addr n)) (joined_push f t),
      sum_by-append (λ e. cond (meets c.args.addr n e) 1 0) (joined f 0 t) (f t),
      count_front (meets c.args.addr n) f (t + 1) s.shape.numbers (omega (arith, c.loop-tid-test.true)),
    ))

pub loop-tid-preserved : goal.loop-tid-preserved
loop-tid-preserved g c =
    let m = g.M.Media in
    let s = c.args.self.now in
    let image = (m.view c.args.media.now).content.bytes in
    let t = c.loop-tid.tid in
    let n = length c.args.buf.now in
    let so_far = c.loop-tid.invariant in
    let f : ℕ → List Entry = λ u. cond (has c.args.group u) (entries_of s u) [] in
    let p : ℕ → List Part = λ u. cond (has c.args.group u) (parts_in s.shape image u (entries_of s u)) [] in
    let same_len : length c.loop-tid.buf ≡ length c.args.buf.now = c.loop-tid.auto.buf in
    let one : (m.view c.lay_number.new.media).moment ≡ (m.view c.loop-tid.media).moment + count_by (meets c.args.addr (length c.loop-tid.buf)) (cond (has c.args.group c.loop-tid.tid) (entries_of c.args.self.now c.loop-tid.tid) []) = c.in_ok-lay_number.ensures.costs.done refl in
    let here : count_by (meets c.args.addr (length c.loop-tid.buf)) (cond (has c.args.group c.loop-tid.tid) (entries_of c.args.self.now c.loop-tid.tid) []) ≡ count_by (meets c.args.addr (length c.args.buf.now)) (cond (has c.args.group c.loop-tid.tid) (entries_of c.args.self.now c.loop-tid.tid) []) =
    ap (λ (k : ℕ). count_by (meets c.args.addr k) (cond (has c.args.group c.loop-tid.tid) (entries_of c.args.self.now c.loop-tid.tid) [])) same_len in
    record {
      costs = omega (arith, one, here, so_far.costs, ap (count_by (meets c.args.addr n)) (joined_push f t), sum_by-append (λ e. cond (meets c.args.addr n e) 1 0) (joined f 0 t) (f t));
      does = goes_on m.tells _ _ _ _ _ (λ told i out. tt) so_far.does c.in_ok-lay_number.ensures.does refl;
      bytes = λ told whole long was.
          let ps = joined p 0 t in
          let same : (m.view c.loop-tid.media).content.bytes ≡ image = same_bytes (m.view c.args.media.now).content (m.view c.loop-tid.media).content (so_far.does.touched told) in
          let placed = some_placed s.shape image (entries_of s) (c.requires.held told) s.kept.entries c.args.group 0 t (omega (arith, c.loop-tid-test.true)) in
          laid_more whole c.lay_number.new.buf ps (p t) (joined p 0 (t + 1)) c.args.addr n (length c.loop-tid.buf) same_len
          (c.in_ok-lay_number.ensures.bytes told (applied ps whole) (length_laid s.shape ps whole placed long) (so_far.bytes told whole long was ∙ ap (range (applied ps whole) c.args.addr) (sym same_len))
          ∙ ap (λ (old : List ℕ). range (applied (cond (has c.args.group t) (parts_in s.shape old t (entries_of s t)) []) (applied ps whole)) c.args.addr (length c.loop-tid.buf)) same)
          (sym (joined_push p t));
    }

pub returns-clause-bytes : goal.returns-clause-bytes
returns-clause-bytes g c told whole long was =
    let s = c.args.self.now in
    let image = (g.M.Media.view c.args.media.now).content.bytes in
    let p : ℕ → List Part = λ u. cond (has c.args.group u) (parts_in s.shape image u (entries_of s u)) [] in
    let all : c.loop-tid.tid ≡ s.shape.numbers = omega (arith, c.loop-tid-test.false, c.loop-tid.auto.tid-end) in
    c.loop-tid.invariant.bytes told whole long was ∙ ap (λ (k : ℕ). range (applied (joined p 0 k) whole) c.args.addr (length c.args.buf.now)) all
