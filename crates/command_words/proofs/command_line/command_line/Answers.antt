use Rattle.std.proofs.Common.{◌≡◌, [], ◌∷◌, Ok, refl, sym, ap, subst}
use Rattle.std.proofs.lemmas.List.{nil_from_length}
use Rattle.std.specs.Array.Iter.{array_into_iter_items}
use Rattle.clap.specs.Words.{App, app_of}
use Rattle.command_words.specs.CommandLine.{command_line, no_commands}
use Rattle.command_words.proofs.InTurn.{IsWholeWith, AreCommands, all_commands}
use Rattle.command_words.proofs.command_line.command_line.Goals as goal

same_top : {app other : App} → app ≡ other → app.top ≡ other.top
same_top is = ap (λ (app : App). app.top) is

pub loop-command-init : goal.loop-command-init
loop-command-init c =
    let commands =
    c.run_command.result ∷ c.eaw_command.result ∷ Ok c.new.result ∷ c.format_command.result ∷ c.drill_command.result ∷ c.callers_command.result ∷ c.make_command.result ∷ Ok c.new-2.result ∷ Ok c.new-3.result ∷ [] in
    let are : AreCommands commands command_line.subs = (
      c.run_command.ensures.shape,
      c.run_command.ensures.local,
      (
        c.eaw_command.ensures.shape,
        c.eaw_command.ensures.local,
        (
          same_top c.new.ensures.app,
          c.new.ensures.local,
          (
            c.format_command.ensures.shape,
            c.format_command.ensures.local,
            (
              c.drill_command.ensures.shape,
              c.drill_command.ensures.local,
              (
                c.callers_command.ensures.shape,
                c.callers_command.ensures.local,
                (
                  c.make_command.ensures.shape,
                  c.make_command.ensures.local,
                  (
                    same_top c.new-2.ensures.app,
                    c.new-2.ensures.local,
                    (
                      same_top c.new-3.ensures.app,
                      c.new-3.ensures.local,
                      tt,
                    ),
                  ),
                ),
              ),
            ),
          ),
        ),
      ),
    ) in
    rw (c.into_iter-command-iterator.ensures.into_iter_gives.0, c.no_commands-line.ensures) (all_commands command_line no_commands commands command_line.subs are refl)

pub loop-command-preserved : goal.loop-command-preserved
loop-command-preserved c =
    let left = array_into_iter_items c.next.new.self in
    let line = app_of c.loop-command.line in
    let next = subst (λ commands. IsWholeWith command_line commands line) c.in-Some.ensures.steps c.loop-command.invariant in
    let found : IsWholeWith command_line (Ok c.in_ok-command.field-0 ∷ left) line = subst (λ command. IsWholeWith command_line (command ∷ left) line) c.in_ok-command.was next in
    subst (IsWholeWith command_line left) (sym (c.in_ok-line.ensures.shape found.0)) found.1

pub returns : goal.returns
returns c = subst (λ commands. IsWholeWith command_line commands (app_of c.loop-command.line)) (nil_from_length _ c.in-None.ensures.steps.0) c.loop-command.invariant
