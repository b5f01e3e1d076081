use Rattle.std.proofs.Common.{false, refl, inl, inr, ◌≡◌, ℕ, ◌∙◌, [], ◌∷◌, List, drop, length, sym, ap, subst, arith}
use Rattle.std.specs.Prelude.{IsTrue, None}
use Rattle.std.proofs.lemmas.Bool.{cond-false}
use Rattle.std.proofs.lemmas.Result.{err_from_is_err_and}
use Rattle.mars_base.proofs.Going.{then}
use Rattle.pcm_media.specs.Images.{IsOutside}
use Rattle.pcm_media.proofs.Left.{same_bytes, left_as_read}
use Rattle.array_shape.specs.Places.{media_len}
use Rattle.array_image.specs.Image.{data_of, row_of}
use Rattle.array_image.specs.Decided.{settled_data}
use Rattle.array_image.specs.Standing.{IsLawful}
use Rattle.array_image.proofs.Calls.{none_yet, goes_on, ends_with, hands_on}
use Rattle.array_image.proofs.Parts.{decided_placed}
use Rattle.commit_queue.specs.Between.{IsAtRest}
use Rattle.commit_queue.specs.Rows.{HasRowBytes, bytes_of, with_votes}
use Rattle.device_recovery.proofs.Done.{all_done}
use Rattle.device_recovery.specs.Table.{RowsAre}
use Rattle.device_recovery.specs.Recovered.{rows_good, HasNoVote, recovered_places}
use Rattle.device_recovery.proofs.Clearing.{no_vote_settled}
use Rattle.device_recovery.proofs.Lists.{decided_count, dropped_count, no_vote, no_count}
use Rattle.device_recovery.proofs.OrderSums.{settle_same, silent_named, silent_calls}
use Rattle.device_recovery.proofs.Moments.{clean_from, reading_law, sense_law}
use Rattle.device_recovery.proofs.Goods.{all_good}
use Rattle.device_recovery.proofs.Zeroing.{votes_cleared}
use Rattle.device_recovery.proofs.recovery.recover.Goals as goal

pub returns-in_err-rows : goal.returns-in_err-rows
returns-in_err-rows g c =
    let m = g.M.Media in
    let old = m.view c.args.media.now in
    let now = m.view c.read_sound.new.media in
    let all = recovered_places c.args.shape.now old.content.bytes in
    let read = c.in_err-rows.ensures in
    let p = err_from_is_err_and c.from_residual.result c.from_residual.ensures.1 in
    rw (p.1, p.2) (record {
      clean = λ told. tt;
      settled = λ told. tt;
      rows = λ told. tt;
      counts = λ told. tt;
      sure = λ told. tt;
      good = λ told. tt;
      bad = read.bad;
      unwritten = λ told h t is. read.does.touched told;
      spared = λ told. inl (read.does.touched told);
      idle = λ told none. read.does.touched told;
      costs = λ told none. record { done = λ exact. tt; most = omega (arith, (read.costs told).most, silent_named c.args.shape.now old.content.bytes none) };
      calls = λ told. record { done = λ exact. tt; most = omega (arith, (read.costs told).most) };
      any_moment = λ told lawful. reading_law c.args.shape.now old now lawful (read.does.time told);
      does = ends_with m.tells all [] old old now (λ told i out. tt) (none_yet m.tells all old) _ read.does;
    })

pub returns-then-report-eq0 : goal.returns-then-report-eq0
returns-then-report-eq0 g c =
    let m = g.M.Media in
    let shape = c.args.shape.now in
    let old = m.view c.args.media.now in
    let base = old.content.bytes in
    let now = m.view c.read_sound.new.media in
    let all = recovered_places shape base in
    let rows = c.in_ok-rows.rows in
    let read = c.in_ok-rows.ensures in
    let report = c.count_rows-report.ensures in
    let none = λ (told : IsTrue m.tells). no_vote shape base rows (read.rows told) (omega (arith, c.if-report-eq0.true, report.decided)) (omega (arith, c.if-report-eq0.true, report.dropped)) in
    record {
      clean = λ told.
          let long : length now.content.bytes ≡ media_len shape = g.met.M.Media.long c.read_sound.new.media told ∙ read.does.size ∙ c.requires.size in
          clean_from shape (settled_data shape base) now.content long (read.sure told) (subst (λ bytes. HasNoVote shape bytes) (sym (same_bytes _ _ (read.does.touched told))) (none told))
          (ap (λ (bytes : List ℕ). data_of shape bytes) (same_bytes _ _ (read.does.touched told)) ∙ sym (no_vote_settled shape base (none told)));
      settled = λ told. ap (λ (bytes : List ℕ). data_of shape bytes) (same_bytes _ _ (read.does.touched told)) ∙ sym (no_vote_settled shape base (none told));
      rows = λ told.
          let same = same_bytes _ _ (read.does.touched told) in
          λ h t lt lt'. ap (λ (bytes : List ℕ). bytes_of shape bytes h t) same ∙ sym (cond-false (row_of shape base h t).voted (0 ∷ drop 1 (bytes_of shape base h t)) (bytes_of shape base h t) (none told h t lt lt'));
      counts = λ told. record { decided = report.decided ∙ decided_count shape base rows (read.rows told); dropped = report.dropped ∙ dropped_count shape base rows (read.rows told) };
      sure = read.sure;
      good = read.good;
      bad = λ told. tt;
      unwritten = λ told. tt;
      spared = λ told. tt;
      idle = λ told quiet. read.does.touched told;
      costs = λ told silent.
          let one = (read.costs told).done refl in
          let named = silent_named shape base silent in
          record { done = λ exact. omega (arith, one, named); most = omega (arith, one, named) };
      calls = λ told.
          let one = (read.costs told).done refl in
          let named = silent_named shape base (none told) in
          let quiet = silent_calls shape base (none told) in
          record { done = λ exact. omega (arith, one, named, quiet); most = omega (arith, one, named, quiet) };
      any_moment = λ told lawful. reading_law shape old now lawful (read.does.time told);
      does = ends_with m.tells all [] old old now (λ told i out. tt) (none_yet m.tells all old) _ read.does;
    }

pub settle-requires-clause-rows : goal.settle-requires-clause-rows
settle-requires-clause-rows g c told =
    subst (λ bytes. RowsAre c.args.shape.now bytes c.args.shape.now.numbers c.in_ok-rows.rows) (sym (same_bytes _ _ (c.in_ok-rows.ensures.does.touched told))) (c.in_ok-rows.ensures.rows told)

pub settle-requires-clause-good : goal.settle-requires-clause-good
settle-requires-clause-good g c told =
    subst (λ bytes. rows_good c.args.shape.now bytes None) (sym (same_bytes _ _ (c.in_ok-rows.ensures.does.touched told))) (c.in_ok-rows.ensures.good told)

pub returns-in_err-settle : goal.returns-in_err-settle
returns-in_err-settle g c =
    let m = g.M.Media in
    let shape = c.args.shape.now in
    let old = m.view c.args.media.now in
    let mid = m.view c.read_sound.new.media in
    let all = recovered_places shape old.content.bytes in
    let read = c.in_ok-rows.ensures in
    let report = c.count_rows-report.ensures in
    let settled = c.in_err-settle.ensures in
    let same = λ (told : IsTrue m.tells). sym (same_bytes old.content mid.content (read.does.touched told)) in
    let voted : IsTrue m.tells → HasNoVote shape old.content.bytes → ⊥ = λ told none.
    let zero = no_count shape old.content.bytes c.in_ok-rows.rows (read.rows told) none in
    c.if-report-eq0.false (omega (arith, zero.0, zero.1, report.decided, report.dropped)) in
    let p = err_from_is_err_and c.from_residual-in_err-settle.result c.from_residual-in_err-settle.ensures.1 in
    rw (p.1, p.2) (record {
      clean = λ told. tt;
      settled = λ told. tt;
      rows = λ told. tt;
      counts = λ told. tt;
      sure = λ told. tt;
      good = λ told. tt;
      bad = λ told h t is. cc;
      unwritten = λ told h t is. cc;
      spared = λ told. inr (read.good told);
      idle = λ told none. absurd (voted told none);
      costs = λ told none. absurd (voted told none);
      calls = λ told.
          let one = (read.costs told).done refl in
          let all = settle_same shape old.content.bytes c.in_ok-rows.rows (read.rows told) in
          record { done = λ exact. tt; most = omega (arith, one, settled.costs.most, all) };
      any_moment = λ told lawful. then (reading_law shape old mid lawful (read.does.time told))
          (sense_law shape old mid (m.view c.settle.new.media) (same told) (settled.any_moment told (subst (IsLawful shape) (same told) (lawful old.content.bytes (left_as_read old.content)))));
      does =
          let looked = goes_on m.tells all [] old old mid (λ told i out. tt) (none_yet m.tells all old) read.does refl in
          hands_on m.tells all _ _ _ _ (λ told i out. subst (λ bytes. IsOutside (recovered_places shape bytes) i) (same told) out) looked _ refl settled.does;
    })

pub returns : goal.returns
returns g c =
    let m = g.M.Media in
    let shape = c.args.shape.now in
    let old = m.view c.args.media.now in
    let mid = m.view c.read_sound.new.media in
    let all = recovered_places shape old.content.bytes in
    let rows = c.in_ok-rows.rows in
    let read = c.in_ok-rows.ensures in
    let report = c.count_rows-report.ensures in
    let settled = c.in_ok-settle.ensures in
    let same = λ (told : IsTrue m.tells). sym (same_bytes old.content mid.content (read.does.touched told)) in
    let voted : IsTrue m.tells → HasNoVote shape old.content.bytes → ⊥ = λ told none.
    let zero = no_count shape old.content.bytes rows (read.rows told) none in
    c.if-report-eq0.false (omega (arith, zero.0, zero.1, report.decided, report.dropped)) in
    record {
      clean = λ told. subst (λ (bytes : List ℕ). IsAtRest shape [] (settled_data shape bytes) (m.view c.settle.new.media).content) (sym (same told)) (settled.clean told);
      settled = λ told. settled.settled told ∙ ap (λ (bytes : List ℕ). settled_data shape bytes) (sym (same told));
      rows = λ told.
          let now = m.view c.settle.new.media in
          let base = mid.content.bytes in
          let long : length base ≡ media_len shape = g.met.M.Media.long c.read_sound.new.media told ∙ read.does.size ∙ c.requires.size in
          let after : length now.content.bytes ≡ media_len shape = g.met.M.Media.long c.settle.new.media told ∙ settled.does.size ∙ read.does.size ∙ c.requires.size in
          let placed = decided_placed shape base long (all_good shape base (subst (λ bytes. rows_good shape bytes None) (same told) (read.good told))) in
          subst (λ (bytes : List ℕ). HasRowBytes shape now.content.bytes (with_votes (λ h t. (row_of shape bytes h t).voted) false (bytes_of shape bytes))) (sym (same told))
          (votes_cleared shape base now.content.bytes after placed (settled.does.touched told).bytes (settled.zeros told) (settled.unvoted told));
      counts = λ told. record { decided = report.decided ∙ decided_count shape old.content.bytes rows (read.rows told); dropped = report.dropped ∙ dropped_count shape old.content.bytes rows (read.rows told) };
      sure = settled.sure;
      good = read.good;
      bad = λ told. tt;
      unwritten = λ told. tt;
      spared = λ told. tt;
      idle = λ told none. absurd (voted told none);
      costs = λ told none. absurd (voted told none);
      calls = λ told.
          let one = (read.costs told).done refl in
          let all = settle_same shape old.content.bytes rows (read.rows told) in
          record { done = λ exact. let two = settled.costs.done told in omega (arith, one, two, all); most = omega (arith, one, settled.costs.most, all) };
      any_moment = λ told lawful. then (reading_law shape old mid lawful (read.does.time told))
          (sense_law shape old mid (m.view c.settle.new.media) (same told) (settled.any_moment told (subst (IsLawful shape) (same told) (lawful old.content.bytes (left_as_read old.content)))));
      does =
          let looked = goes_on m.tells all [] old old mid (λ told i out. tt) (none_yet m.tells all old) read.does refl in
          let done = goes_on m.tells all _ _ _ _ (λ told i out. subst (λ bytes. IsOutside (recovered_places shape bytes) i) (same told) out) looked settled.does refl in
          all_done g.M.Media.tells _ _ _ _ done;
    }
