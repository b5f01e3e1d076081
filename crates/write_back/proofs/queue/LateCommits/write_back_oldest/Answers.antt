use Rattle.std.proofs.Common.{◌≡◌, refl, sym, ◌∙◌, ap, List, [], take, drop}
use Rattle.row_bytes.specs.declared.ballot.Ballot.{Ballot}
use Rattle.array_image.specs.Image.{data_of}
use Rattle.coordinator.specs.Commits.{commit_of}
use Rattle.write_back.specs.Waiting.{commits_of}
use Rattle.write_back.proofs.Steps.{nothing_back, none_first, oldest_fault, oldest_left, opened_in, there_first, good_first, its_names, rest_first}
use Rattle.write_back.proofs.queue.LateCommits.write_back_oldest.Goals as goal

pub returns-in_default : goal.returns-in_default
returns-in_default g c =
    let none : c.args.self.now.ballots.items ≡ [] = sym c.deref.ensures.value ∙ none_first c.deref.result.now (c.in_default.ensures.value) in
    nothing_back g.M.Media.tells c.args.shape.now 1 c.args.self.now (g.M.Media.view c.args.media.now) (ap (λ (xs : List Ballot). take 1 xs) none)
    (ap (λ (xs : List Ballot). drop 1 xs) none ∙ sym none) c.requires.fit c.requires.waiting

pub write_back-requires-clause-there : goal.write_back-requires-clause-there
write_back-requires-clause-there g c =
    let media = g.M.Media.view c.args.media.now in
    there_first g.M.Media.tells c.args.shape.now c.args.self.now c.in-Some.field-0.now (drop 1 c.args.self.now.ballots.items) (opened_in c.args.self.now.ballots.items c.deref.result.now c.in-Some.field-0.now c.deref.ensures.value c.in-Some.ensures.value) c.requires.fit media media c.requires.waiting

pub write_back-requires-clause-good : goal.write_back-requires-clause-good
write_back-requires-clause-good g c =
    let media = g.M.Media.view c.args.media.now in
    good_first g.M.Media.tells c.args.shape.now c.args.self.now c.in-Some.field-0.now (drop 1 c.args.self.now.ballots.items) (opened_in c.args.self.now.ballots.items c.deref.result.now c.in-Some.field-0.now c.deref.ensures.value c.in-Some.ensures.value) c.requires.fit media media c.requires.waiting

pub returns-in_err-write_back : goal.returns-in_err-write_back
returns-in_err-write_back g c =
    let e = c.in_err-write_back.ensures in
    oldest_fault g.M.Media.tells c.args.shape.now c.args.self.now c.in-Some.field-0.now (drop 1 c.args.self.now.ballots.items) (opened_in c.args.self.now.ballots.items c.deref.result.now c.in-Some.field-0.now c.deref.ensures.value c.in-Some.ensures.value) c.requires.fit (g.M.Media.view c.args.media.now) (g.M.Media.view c.write_back.new.media) c.requires.waiting
    e.any_moment e.cells e.does e.costs c.from_residual.result c.from_residual.ensures.0 refl

pub returns : goal.returns
returns g c =
    let e = c.in_ok-write_back.ensures in
    let shape = c.args.shape.now in
    let late = c.args.self.now in
    let b = c.in-Some.field-0.now in
    let bs = drop 1 c.args.self.now.ballots.items in
    let old = g.M.Media.view c.args.media.now in
    let new = g.M.Media.view c.write_back.new.media in
    oldest_left g.M.Media.tells shape late b bs (opened_in c.args.self.now.ballots.items c.deref.result.now c.in-Some.field-0.now c.deref.ensures.value c.in-Some.ensures.value) c.requires.fit old new c.requires.waiting
    e.any_moment e.cells e.does e.costs (record late { ballots = c.remove.new.self }) refl refl c.remove.ensures.items c.remove.ensures.capacity
    (λ told. e.left told (commits_of shape old.content.bytes late.cells bs) (commit_of shape old.content.bytes b late.cells) (data_of shape old.content.bytes)
    (its_names g.M.Media.tells shape late b bs (opened_in c.args.self.now.ballots.items c.deref.result.now c.in-Some.field-0.now c.deref.ensures.value c.in-Some.ensures.value) c.requires.fit old new c.requires.waiting) (rest_first g.M.Media.tells shape late b bs (opened_in c.args.self.now.ballots.items c.deref.result.now c.in-Some.field-0.now c.deref.ensures.value c.in-Some.ensures.value) c.requires.fit old new c.requires.waiting told)) e.rows refl
