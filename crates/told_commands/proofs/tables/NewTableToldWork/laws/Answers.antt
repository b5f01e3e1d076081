use Rattle.told_commands.proofs.Tabling.{as_made, comes_of}
use Rattle.told_commands.proofs.tables.NewTableToldWork.laws.Goals as goal

pub returns-clause-done : goal.returns-clause-done
returns-clause-done g c = λ old new store mid later form end status cut text told ran says left said.
    let m = g.M.Media in
    let s = g.S.EawStore in
    comes_of m.tells told (m.view old) (s.view store) (s.view mid) (s.view later) (m.view new) c.args.self.now.name ran form says end left status cut text said

pub returns-clause-none : goal.returns-clause-none
returns-clause-none g c = λ old new status outcome. as_made c.args.self.now.name (g.M.Media.view old) status (g.M.Media.view new) outcome
