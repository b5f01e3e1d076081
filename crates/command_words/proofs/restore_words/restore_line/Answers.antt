use Rattle.std.proofs.Common.{[], ◌∷◌, ◌∙◌, ap}
use Rattle.std.proofs.lemmas.Result.{IfOk-weaker}
use Rattle.clap.specs.Words.{App}
use Rattle.command_words.specs.Restore.{restore_rules}
use Rattle.command_words.proofs.InTurn.{AreArgs, added, with_rules}
use Rattle.command_words.proofs.restore_words.restore_line.Goals as goal

pub returns : goal.returns
returns c =
    let words = c.new.result ∷ c.option.result ∷ c.option-2.result ∷ c.option-3.result ∷ c.option-4.result ∷ c.option-5.result ∷ c.flag.result ∷ [] in
    let are : AreArgs words restore_rules = (
      c.new.ensures.rule,
      c.new.ensures.optional.1,
      (
        c.option.ensures.rule,
        c.option.ensures.local,
        (
          c.option-2.ensures.rule,
          c.option-2.ensures.local,
          (
            c.option-3.ensures.rule,
            c.option-3.ensures.local,
            (
              c.option-4.ensures.rule,
              c.option-4.ensures.local,
              (
                c.option-5.ensures.rule,
                c.option-5.ensures.local,
                (
                  c.flag.ensures.rule,
                  c.flag.ensures.local,
                  tt,
                ),
              ),
            ),
          ),
        ),
      ),
    ) in
    IfOk-weaker c.args-2.result _ _
    (λ command adds. (added c.bare_line.result command words restore_rules are c.bare_line.ensures.local (rw c.in_ok-words.ensures.items at adds)).0 ∙ ap (λ (a : App). with_rules a restore_rules) c.bare_line.ensures.app)
    c.args-2.ensures
