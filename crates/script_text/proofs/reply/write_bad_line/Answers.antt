use Rattle.std.proofs.Common.{◌≡◌, List, ℕ, ◌++◌, subst}
use Rattle.std.specs.Prelude.{OnOk}
use Rattle.script_text.proofs.ReplyLemmas.{bad_line_is}
use Rattle.script_text.proofs.reply.write_bad_line.Goals as goal

pub returns-clause-ok : goal.returns-clause-ok
returns-clause-ok c =
    subst (λ (line : List ℕ). OnOk c.append_pieces.result (c.append_pieces.new.out.items ≡ c.args.out.now.items ++ line)) (bad_line_is c.args.n) c.append_pieces.ensures.ok
