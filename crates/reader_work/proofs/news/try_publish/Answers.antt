use Rattle.std.proofs.Common.{◌≡◌, ℕ, List, drop, ap, ◌∙◌, subst}
use Rattle.std.specs.Prelude.{Result, IfOk}
use Rattle.std.proofs.lemmas.Result.{err_from_is_err_and}
use Rattle.history.specs.declared.transaction.Done.{Done}
use Rattle.mars_manager.specs.declared.reading.NotCopied.{NotCopied}
use Rattle.snapshot_readers.specs.Batches.{joined}
use Rattle.snapshot_readers.specs.Feeds.{fed}
use Rattle.reader_work.proofs.Publishing.{grows, all_fed, fed_after}
use Rattle.reader_work.proofs.news.try_publish.Goals as goal

pub returns-in-Ok-feed-clause-behind : goal.returns-in-Ok-feed-clause-behind
returns-in-Ok-feed-clause-behind g c =
    let was = fed c.args.feed.now in
    let seen = c.since.new.pass.known.seen in
    fed_after c.feed.result was _ seen _ _ _ _ (grows (joined was) c.args.pass.now.known.seen seen c.requires.behind c.since.ensures.seen)
    (c.as_slice.ensures ∙ subst (λ (r : Result (List Done) NotCopied). IfOk r (λ news. news ≡ drop c.fed-fed.result seen)) c.in-Ok.is c.in_ok-news.ensures.copy ∙ ap (λ (n : ℕ). drop n seen) c.fed-fed.ensures) c.feed.ensures.ok c.feed.ensures.err

pub returns-clause-behind : goal.returns-clause-behind
returns-clause-behind g c =
    let was = fed c.args.feed.now in
    let seen = c.since.new.pass.known.seen in
    fed_after c.feed.result was _ seen _ _ _ _ (grows (joined was) c.args.pass.now.known.seen seen c.requires.behind c.since.ensures.seen)
    (c.as_slice.ensures ∙ subst (λ (r : Result (List Done) NotCopied). IfOk r (λ news. news ≡ drop c.fed-fed.result seen)) c.in-Ok.is c.in_ok-news.ensures.copy ∙ ap (λ (n : ℕ). drop n seen) c.fed-fed.ensures) c.feed.ensures.ok c.feed.ensures.err

pub returns-in-Ok-feed-clause-shown : goal.returns-in-Ok-feed-clause-shown
returns-in-Ok-feed-clause-shown g c =
    let was = fed c.args.feed.now in
    let seen = c.since.new.pass.known.seen in
    all_fed was _ seen _ (grows (joined was) c.args.pass.now.known.seen seen c.requires.behind c.since.ensures.seen)
    (c.as_slice.ensures ∙ subst (λ (r : Result (List Done) NotCopied). IfOk r (λ news. news ≡ drop c.fed-fed.result seen)) c.in-Ok.is c.in_ok-news.ensures.copy ∙ ap (λ (n : ℕ). drop n seen) c.fed-fed.ensures) c.in-Ok-feed.ensures.ok.0

pub returns-in_default-clause-behind : goal.returns-in_default-clause-behind
returns-in_default-clause-behind g c = grows (joined (fed c.args.feed.now)) c.args.pass.now.known.seen c.since.new.pass.known.seen c.requires.behind c.since.ensures.seen

pub returns-in_err-news-clause-behind : goal.returns-in_err-news-clause-behind
returns-in_err-news-clause-behind g c = grows (joined (fed c.args.feed.now)) c.args.pass.now.known.seen c.since.new.pass.known.seen c.requires.behind c.since.ensures.seen

pub returns-in_err-news-clause-again : goal.returns-in_err-news-clause-again
returns-in_err-news-clause-again g c =
    let exit = err_from_is_err_and c.from_residual.result c.from_residual.ensures.1 in
    rw (exit.1, exit.2) c.in_err-news.ensures.again.1
