use Rattle.std.proofs.Common.{false, [], refl, sym, subst}
use Rattle.std.proofs.lemmas.List.{append-nil}
use Rattle.script_run.specs.Lines.{lines_of}
use Rattle.frame_lines.specs.Followed.{FollowedLines, LeavesStore}
use Rattle.frame_lines.specs.declared.ended.FollowEnd.TheVariants.{NoMemory}
use Rattle.frame_lines.proofs.Running.{none_followed}
use Rattle.frame_lines.proofs.follow.follow_lines.Goals as goal

pub returns-in-Err-clause-ran : goal.returns-in-Err-clause-ran
returns-in-Err-clause-ran g c =
    let s = g.S.EawStore in
    record {
      cut = false;
      text = [];
      wrote = λ told. sym (append-nil (g.K.Sink.written c.args.sink.now));
      counts = refl;
      holds = subst (λ (x : g.row.S.Denot). FollowedLines (s.view c.args.store).shape (LeavesStore s.tells s.opens (s.view c.args.store) (s.view x) NoMemory) (lines_of c.args.input.now) NoMemory false []) (sym c.in-Err.ensures.returned)
          (none_followed s.tells s.opens (s.view c.args.store) (lines_of c.args.input.now) (λ image told left. g.met.S.EawStore.only_now c.args.store image told c.requires.alive left));
    }
