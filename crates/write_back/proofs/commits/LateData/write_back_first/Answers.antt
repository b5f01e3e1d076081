use Rattle.std.proofs.Common.{List, length, take, ap, subst, arith}
use Rattle.row_bytes.specs.declared.ballot.Ballot.{Ballot}
use Rattle.write_back.specs.Shown.{entries_of}
use Rattle.write_back.specs.Tied.{Forgets}
use Rattle.write_back.proofs.Together.{still_held}
use Rattle.write_back.proofs.commits.LateData.write_back_first.Given.{Over}
use Rattle.write_back.proofs.commits.LateData.write_back_first.Goals as goal

pub write_back_first-requires : goal.write_back_first-requires
write_back_first-requires g c = record { fit = c.requires.ready.fit; size = c.requires.size; waiting = c.requires.waiting }

module _ (g : Over) (c : goal.After-write_back_first g) where
  went : Forgets c.args.shape.now (take c.args.count c.args.self.now.queue.ballots.items) (entries_of c.args.self.now.parts) (entries_of c.forget_first.new.parts)
  went = subst (λ (l : List Ballot). Forgets c.args.shape.now (take c.args.count l) (entries_of c.args.self.now.parts) (entries_of c.forget_first.new.parts)) c.deref.ensures.value c.forget_first.ensures.forgets

pub returns-clause-stays : goal.returns-clause-stays
returns-clause-stays g c =
    let kept = c.args.self.now in
    let back = c.write_back_first.ensures in
    record {
      ready = record {
        fit = back.fit;
        shape_is = c.forget_first.ensures.shape;
        places = λ some. c.forget_first.ensures.places (c.requires.ready.places (omega (arith, some, back.depth)));
      };
      held = λ told. still_held c.args.shape.now kept.parts c.requires.ready.shape_is (entries_of c.forget_first.new.parts) (take c.args.count kept.queue.ballots.items) (went g c)
          (g.M.Media.view c.args.media.now).content.bytes (g.M.Media.view c.write_back_first.new.media).content.bytes (back.cells told);
    }

pub returns-clause-forgets : goal.returns-clause-forgets
returns-clause-forgets g c = went g c
