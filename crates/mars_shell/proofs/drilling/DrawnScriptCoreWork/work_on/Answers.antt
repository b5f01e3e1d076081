use Rattle.std.proofs.Common.{[], false, refl, sym, subst}
use Rattle.std.proofs.lemmas.List.{append-nil}
use Rattle.texts.specs.Written.{IsWritten}
use Rattle.mars_shell.proofs.Summing.{summary_told, fault_told, short_told}
use Rattle.mars_shell.proofs.drilling.DrawnScriptCoreWork.work_on.Goals as goal

pub returns-in-Ok-clause-works : goal.returns-in-Ok-clause-works
returns-in-Ok-clause-works g c =
    let s = g.S.EawStore in
    let wrote = c.write_ended.ensures.wrote in
    record {
      cut = wrote.cut;
      text = wrote.text;
      wrote = wrote.wrote;
      counts = wrote.counts;
      holds = λ told. summary_told c.args.self.now.numbers s.tells _ _ c.args.numbers c.requires.numbers told c.requires.ready c.in-Ok.text.items c.write_ended.result wrote.cut wrote.text c.in-Ok.ensures.summed wrote.holds.0
          (subst (IsWritten wrote.cut wrote.text) c.deref.ensures.value wrote.holds.1);
    }

pub returns-in-Err-Media-clause-works : goal.returns-in-Err-Media-clause-works
returns-in-Err-Media-clause-works g c =
    let s = g.S.EawStore in
    let front = c.write_front.ensures in
    let early = rw c.in-Err-Media.field-0-is at c.in-Err-Media.ensures.early in
    record {
      cut = front.cut;
      text = front.text;
      wrote = front.wrote;
      counts = front.counts;
      holds = λ told. fault_told c.args.self.now.numbers s.tells _ _ c.args.numbers c.requires.numbers told c.requires.ready c.in-Err-Media.field-0-0 front.cut front.text early front.holds;
    }

pub returns-in-Err-NoMemory-clause-works : goal.returns-in-Err-NoMemory-clause-works
returns-in-Err-NoMemory-clause-works g c =
    let s = g.S.EawStore in
    let early = rw c.in-Err-NoMemory.field-0-is at c.in-Err-NoMemory.ensures.early in
    record {
      cut = false;
      text = [];
      wrote = λ _. sym (append-nil _);
      counts = refl;
      holds = λ told. short_told c.args.self.now.numbers s.tells _ _ c.args.numbers c.requires.numbers told c.requires.ready early;
    }
