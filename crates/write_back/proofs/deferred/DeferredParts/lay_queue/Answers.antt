use Rattle.std.proofs.Common.{◌≡◌, ◌+◌, ◌&&◌, ℕ, Bool, true, cond, List, [], ◌∷◌, ◌++◌, length, get_or, take, refl, sym, ◌∙◌, ap, subst, arith}
use Rattle.std.specs.Prelude.{count_by}
use Rattle.std.proofs.lemmas.List.{take_all, take_more}
use Rattle.std.proofs.lemmas.List.Sums.{sum_by-append}
use Rattle.mars_base.specs.Bytes.{range}
use Rattle.mars_base.proofs.Costing.{costs_all, costs_err}
use Rattle.pcm_media.proofs.Left.{same_bytes}
use Rattle.array_shape.specs.Logged.{applied, ranges_of}
use Rattle.row_bytes.specs.declared.ballot.Ballot.{Ballot}
use Rattle.array_shape.specs.NumberSet.{has}
use Rattle.array_image.proofs.Calls.{goes_on}
use Rattle.write_back.specs.Entries.{parts_in, ranges_in}
use Rattle.write_back.specs.Shown.{entries_of}
use Rattle.write_back.specs.Reading.{meets}
use Rattle.write_back.specs.Turns.{group_parts, in_turn, of_group, parts_in_turn}
use Rattle.write_back.proofs.Away.{length_laid, turn_placed}
use Rattle.write_back.proofs.Laying.{laid_more}
use Rattle.write_back.proofs.Marking.{has-bit_and}
use Rattle.write_back.proofs.Turning.{count_turn, in_turn-push}
use Rattle.write_back.proofs.deferred.DeferredParts.lay_queue.Goals as goal

abbrev none : Ballot
none = record { mask = 0; group = 0; order = 0 }

pub lay_group-requires-clause-numbers : goal.lay_group-requires-clause-numbers
lay_group-requires-clause-numbers g c t lt =
    let b = get_or c.args.queue.now c.loop-ballot.ballot-index none in
    has-bit_and c.args.mask b.group t ∙ ap (λ (on : Bool). on && has b.group t) (c.requires.mask t lt)

pub lay_group-requires-clause-held : goal.lay_group-requires-clause-held
lay_group-requires-clause-held g c told t lt =
    let m = g.M.Media in
    let s = c.args.self.now in
    subst (λ (image : List ℕ). ranges_of (parts_in s.shape image t (entries_of s t)) ≡ ranges_in (entries_of s t))
    (sym (same_bytes (m.view c.args.media.now).content (m.view c.loop-ballot.media).content (c.loop-ballot.invariant.does.touched told)))
    (c.requires.held told t lt)

pub returns-in_err-lay_group-clause-costs : goal.returns-in_err-lay_group-clause-costs
returns-in_err-lay_group-clause-costs g c =
    let s = c.args.self.now in
    let i = c.loop-ballot.ballot-index in
    let n = length c.args.buf.now in
    let b = get_or c.args.queue.now i none in
    let here : count_by (meets c.args.addr (length c.loop-ballot.buf)) (of_group s.shape (entries_of s) b.group) ≡ count_by (meets c.args.addr (length c.args.buf.now)) (of_group s.shape (entries_of s) b.group) =
    ap (λ (k : ℕ). count_by (meets c.args.addr k) (of_group s.shape (entries_of s) b.group)) c.loop-ballot.auto.buf in
    costs_err true _ _ _ _ c.from_residual.ensures.0 (omega (arith, c.in_err-lay_group.ensures.costs.most, here, c.loop-ballot.invariant.costs, count_turn s.shape (entries_of s) (meets c.args.addr n) c.args.queue.now i none c.loop-ballot-test.true))

pub loop-ballot-preserved : goal.loop-ballot-preserved
loop-ballot-preserved g c =
    let m = g.M.Media in
    let s = c.args.self.now in
    let image = (m.view c.args.media.now).content.bytes in
    let i = c.loop-ballot.ballot-index in
    let n = length c.args.buf.now in
    let b = get_or c.args.queue.now i none in
    let so_far = c.loop-ballot.invariant in
    let next : take (i + 1) c.args.queue.now ≡ take i c.args.queue.now ++ b ∷ [] = take_more c.args.queue.now i none c.loop-ballot-test.true in
    let same_len : length c.loop-ballot.buf ≡ length c.args.buf.now = c.loop-ballot.auto.buf in
    let one : (m.view c.lay_group.new.media).moment ≡ (m.view c.loop-ballot.media).moment + count_by (meets c.args.addr (length c.loop-ballot.buf)) (of_group s.shape (entries_of s) b.group) = c.in_ok-lay_group.ensures.costs.done refl in
    let here : count_by (meets c.args.addr (length c.loop-ballot.buf)) (of_group s.shape (entries_of s) b.group) ≡ count_by (meets c.args.addr (length c.args.buf.now)) (of_group s.shape (entries_of s) b.group) =
    ap (λ (k : ℕ). count_by (meets c.args.addr k) (of_group s.shape (entries_of s) b.group)) same_len in
    record {
      costs = omega (
        arith,
        one,
        here,
        so_far.costs,
        ap (λ (q : List Ballot). count_by (meets c.args.addr n) (in_turn s.shape (entries_of s) q)) next,
        ap (count_by (meets c.args.addr n)) (in_turn-push s.shape (entries_of s) (take i c.args.queue.now) b),
        sum_by-append (λ e. cond (meets c.args.addr n e) 1 0) (in_turn s.shape (entries_of s) (take i c.args.queue.now)) (of_group s.shape (entries_of s) b.group),
      );
      does = goes_on m.tells _ _ _ _ _ (λ told i out. tt) so_far.does c.in_ok-lay_group.ensures.does refl;
      bytes = λ told whole long was.
          let ps = parts_in_turn s.shape image (entries_of s) (take i c.args.queue.now) in
          let qs = group_parts s.shape image (entries_of s) b.group in
          let same : (m.view c.loop-ballot.media).content.bytes ≡ image = same_bytes (m.view c.args.media.now).content (m.view c.loop-ballot.media).content (so_far.does.touched told) in
          let placed = turn_placed s.shape image (entries_of s) (c.requires.held told) s.kept.entries (take i c.args.queue.now) in
          laid_more whole c.lay_group.new.buf ps qs (parts_in_turn s.shape image (entries_of s) (take (i + 1) c.args.queue.now)) c.args.addr n (length c.loop-ballot.buf) same_len
          (c.in_ok-lay_group.ensures.bytes told (applied ps whole) (length_laid s.shape ps whole placed long) (so_far.bytes told whole long was ∙ ap (range (applied ps whole) c.args.addr) (sym same_len))
          ∙ ap (λ (old : List ℕ). range (applied (group_parts s.shape old (entries_of s) b.group) (applied ps whole)) c.args.addr (length c.loop-ballot.buf)) same)
          (sym (ap (parts_in_turn s.shape image (entries_of s)) next ∙ in_turn-push s.shape (λ t. parts_in s.shape image t (entries_of s t)) (take i c.args.queue.now) b));
    }

pub returns-clause-bytes : goal.returns-clause-bytes
returns-clause-bytes g c told whole long was =
    let s = c.args.self.now in
    let image = (g.M.Media.view c.args.media.now).content.bytes in
    let all : take c.loop-ballot.ballot-index c.args.queue.now ≡ c.args.queue.now = take_all c.loop-ballot.ballot-index c.args.queue.now (omega arith) in
    c.loop-ballot.invariant.bytes told whole long was ∙ ap (λ (q : List Ballot). range (applied (parts_in_turn s.shape image (entries_of s) q) whole) c.args.addr (length c.args.buf.now)) all

pub returns-clause-costs : goal.returns-clause-costs
returns-clause-costs g c =
    let s = c.args.self.now in
    let all : take c.loop-ballot.ballot-index c.args.queue.now ≡ c.args.queue.now = take_all c.loop-ballot.ballot-index c.args.queue.now (omega arith) in
    costs_all true _ _ _ _ (c.loop-ballot.invariant.costs ∙ ap (λ (q : List Ballot). (g.M.Media.view c.args.media.now).moment + count_by (meets c.args.addr (length c.args.buf.now)) (in_turn s.shape (entries_of s) q)) all)
