use Rattle.std.proofs.Common.{◌≡◌, ◌+◌, ℕ, true, List, [], ◌∷◌, length, get_or, take, refl, sym, ◌∙◌, ap, subst, arith}
use Rattle.std.specs.Prelude.{count_by}
use Rattle.std.proofs.lemmas.List.{take_all, take_more}
use Rattle.std.proofs.lemmas.List.Elements.{All-take}
use Rattle.std.proofs.lemmas.Result.{err_from_is_err_and}
use Rattle.mars_base.proofs.Costing.{costs_err, costs_all}
use Rattle.mars_base.specs.Bytes.{range}
use Rattle.pcm_media.proofs.Left.{same_bytes}
use Rattle.array_shape.specs.Logged.{AllFit, applied, ranges_of}
use Rattle.array_image.proofs.Applied.{length-applied}
use Rattle.array_image.proofs.Calls.{none_yet, goes_on, hands_on}
use Rattle.array_image.proofs.Data.{all_fit}
use Rattle.write_back.specs.declared.entry.Entry.{Entry}
use Rattle.write_back.specs.Entries.{IsEntry, parts_in, ranges_in}
use Rattle.write_back.specs.Reading.{meets}
use Rattle.write_back.proofs.EntryParts.{held_at, held_take, parts_in-append, parts_placed}
use Rattle.write_back.proofs.Laying.{count_more, count_some, laid_more}
use Rattle.write_back.proofs.overlay.lay_entries.Goals as goal

abbrev none : Entry
none = record { addr = 0; len = 0; cell = 0 }

pub loop-entry-init : goal.loop-entry-init
loop-entry-init g c =
    let m = g.M.Media in
    record {
      costs = omega arith;
      does = none_yet m.tells [] (m.view c.args.media.now);
      bytes = λ told whole long was. was;
    }

pub lay_entry-requires-clause-size : goal.lay_entry-requires-clause-size
lay_entry-requires-clause-size g c = c.loop-entry.invariant.does.size ∙ c.requires.size

pub lay_entry-requires-clause-held : goal.lay_entry-requires-clause-held
lay_entry-requires-clause-held g c told =
    let m = g.M.Media in
    let shape = c.args.shape.now in
    let e = get_or c.args.entries.now c.loop-entry.entry-index none in
    subst (λ (image : List ℕ). ranges_of (parts_in shape image c.args.tid (e ∷ [])) ≡ ranges_in (e ∷ []))
    (sym (same_bytes (m.view c.args.media.now).content (m.view c.loop-entry.media).content (c.loop-entry.invariant.does.touched told)))
    (held_at shape (m.view c.args.media.now).content.bytes c.args.tid c.args.entries.now c.loop-entry.entry-index none c.loop-entry-test.true (c.requires.held told))

pub loop-entry-preserved : goal.loop-entry-preserved
loop-entry-preserved g c =
    let m = g.M.Media in
    let shape = c.args.shape.now in
    let image = (m.view c.args.media.now).content.bytes in
    let es = c.args.entries.now in
    let i = c.loop-entry.entry-index in
    let e = get_or es i none in
    let n = length c.args.buf.now in
    let so_far = c.loop-entry.invariant in
    let same_len : length c.loop-entry.buf ≡ length c.args.buf.now = c.loop-entry.auto.buf in
    let one : (m.view c.lay_entry.new.media).moment ≡ (m.view c.loop-entry.media).moment + count_by (meets c.args.addr (length c.loop-entry.buf)) (e ∷ []) = c.in_ok-lay_entry.ensures.costs.done refl in
    let here : count_by (meets c.args.addr (length c.loop-entry.buf)) (e ∷ []) ≡ count_by (meets c.args.addr (length c.args.buf.now)) (e ∷ []) = ap (λ (k : ℕ). count_by (meets c.args.addr k) (e ∷ [])) same_len in
    record {
      costs = omega (arith, one, here, so_far.costs, count_more (meets c.args.addr n) es i none c.loop-entry-test.true);
      does = goes_on m.tells _ _ _ _ _ (λ told i out. tt) so_far.does c.in_ok-lay_entry.ensures.does refl;
      bytes = λ told whole long was.
          let ps = parts_in shape image c.args.tid (take i es) in
          let same : (m.view c.loop-entry.media).content.bytes ≡ image = same_bytes (m.view c.args.media.now).content (m.view c.loop-entry.media).content (so_far.does.touched told) in
          let placed = parts_placed shape image c.args.tid (take i es) (All-take (IsEntry shape) i es c.requires.entries) (held_take shape image c.args.tid i es (c.requires.held told)) in
          let fit = subst (λ (k : ℕ). AllFit k ps) (sym long) (all_fit shape ps placed) in
          laid_more whole c.lay_entry.new.buf ps (parts_in shape image c.args.tid (e ∷ [])) (parts_in shape image c.args.tid (take (i + 1) es)) c.args.addr n (length c.loop-entry.buf) same_len
          (c.in_ok-lay_entry.ensures.bytes told (applied ps whole) (length-applied ps whole fit ∙ long) (so_far.bytes told whole long was ∙ ap (range (applied ps whole) c.args.addr) (sym same_len))
          ∙ ap (λ (old : List ℕ). range (applied (parts_in shape old c.args.tid (e ∷ [])) (applied ps whole)) c.args.addr (length c.loop-entry.buf)) same)
          (sym (ap (parts_in shape image c.args.tid) (take_more es i none c.loop-entry-test.true) ∙ parts_in-append shape image c.args.tid (take i es) (e ∷ [])));
    }

pub returns-in_err-lay_entry : goal.returns-in_err-lay_entry
returns-in_err-lay_entry g c =
    let m = g.M.Media in
    let n = length c.args.buf.now in
    let e = get_or c.args.entries.now c.loop-entry.entry-index none in
    let here : count_by (meets c.args.addr (length c.loop-entry.buf)) (e ∷ []) ≡ count_by (meets c.args.addr (length c.args.buf.now)) (e ∷ []) = ap (λ (k : ℕ). count_by (meets c.args.addr k) (e ∷ [])) c.loop-entry.auto.buf in
    let p = err_from_is_err_and c.from_residual.result c.from_residual.ensures.1 in
    rw p.1 (record {
      bytes = λ told whole long was. tt;
      costs = costs_err true _ _ _ _ refl (omega (arith, c.in_err-lay_entry.ensures.costs.most, here, c.loop-entry.invariant.costs, count_some (meets c.args.addr n) c.args.entries.now c.loop-entry.entry-index none c.loop-entry-test.true));
      does = hands_on m.tells [] [] _ _ _ (λ told i out. out) c.loop-entry.invariant.does _ refl c.in_err-lay_entry.ensures.does;
    })

pub returns : goal.returns
returns g c =
    let so_far = c.loop-entry.invariant in
    let es = c.args.entries.now in
    let all : take c.loop-entry.entry-index es ≡ es = take_all c.loop-entry.entry-index es (omega arith) in
    record {
      bytes = λ told whole long was.
          so_far.bytes told whole long was
          ∙ ap (λ (l : List Entry). range (applied (parts_in c.args.shape.now (g.M.Media.view c.args.media.now).content.bytes c.args.tid l) whole) c.args.addr (length c.args.buf.now)) all;
      costs = costs_all true _ _ _ _ (so_far.costs ∙ ap (λ (l : List Entry). (g.M.Media.view c.args.media.now).moment + count_by (meets c.args.addr (length c.args.buf.now)) l) all);
      does = record { size = so_far.does.size; device = so_far.does.device; cause = record { later = so_far.does.cause.later; failed = tt; kept = so_far.does.cause.kept }; touched = so_far.does.touched; time = so_far.does.time };
    }
