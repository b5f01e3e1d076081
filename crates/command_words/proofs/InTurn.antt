-- Arguments and commands that are added to a command in turn.
use Rattle.std.proofs.Common.{◌≡◌, ◌∙◌, ◌||◌, List, [], ◌∷◌, Result, Ok, Err, false, sym, ap, ap₂, subst}
use Rattle.std.specs.Prelude.{IfOk}
use Rattle.clap.specs.Words.{App, Rule, Shape, app_of, shape_of, rule_of, with_rule, with_subcommand, AddsArg, AddsInTurn}
use Rattle.clap.specs.declared.builder.Arg.{Arg}
use Rattle.clap.specs.declared.builder.Command.{Command}
use Rattle.clap.specs.declared.builder.Command.TheViews.{out-Command}

-- arguments with these rules, none of them global
abbrev pub AreArgs : List Arg → List Rule → Type 0
AreArgs [] [] = Unit {0}
AreArgs (arg ∷ args) (rule ∷ rules) = (rule_of arg ≡ rule) × (arg.global ≡ false) × AreArgs args rules
AreArgs _ _ = ⊥

abbrev pub with_rules : App → List Rule → App
with_rules app [] = app
with_rules app (rule ∷ rules) = with_rules (with_rule app rule) rules

-- a command without global arguments to which such arguments are added
pub added : (old new : Command) (args : List Arg) (rules : List Rule) → AreArgs args rules → (out-Command old).has_globals ≡ false → AddsInTurn AddsArg old args new
    → (app_of new ≡ with_rules (app_of old) rules) × ((out-Command new).has_globals ≡ false)
added old new [] [] are local adds = (ap app_of (sym adds), ap (λ (c : Command). (out-Command c).has_globals) (sym adds) ∙ local)
added old new [] (rule ∷ rules) are local adds = absurd are
added old new (arg ∷ args) [] are local adds = absurd are
added old new (arg ∷ args) (rule ∷ rules) are local adds =
    let step = adds.1 in
    let rest = added adds.0 new args rules are.2 (step.globals ∙ ap₂ (λ x y. x || y) local are.1) adds.2 in
    (rest.0 ∙ ap (λ (app : App). with_rules app rules) (step.shape are.1 ∙ ap (with_rule (app_of old)) are.0), rest.1)

-- With these commands, or with those until one is missing, the program is whole.
abbrev pub IsWholeWith : {E : Type 0} → App → List (Result Command E) → App → Type 0
IsWholeWith whole [] app = app ≡ whole
IsWholeWith whole (Ok command ∷ rest) app = ((out-Command command).has_globals ≡ false) × IsWholeWith whole rest (with_subcommand app (shape_of command))
IsWholeWith whole (Err e ∷ rest) app = Unit {0}

-- commands with these shapes and without global arguments, or missing
abbrev pub AreCommands : {E : Type 0} → List (Result Command E) → List Shape → Type 0
AreCommands [] [] = Unit {0}
AreCommands (command ∷ rest) (shape ∷ shapes) = IfOk command (λ c. shape_of c ≡ shape) × IfOk command (λ c. (out-Command c).has_globals ≡ false) × AreCommands rest shapes
AreCommands _ _ = ⊥

abbrev pub with_subcommands : App → List Shape → App
with_subcommands app [] = app
with_subcommands app (shape ∷ shapes) = with_subcommands (with_subcommand app shape) shapes

pub all_commands : {E : Type 0} (whole app : App) (commands : List (Result Command E)) (shapes : List Shape) → AreCommands commands shapes → with_subcommands app shapes ≡ whole → IsWholeWith whole commands app
all_commands whole app [] [] are is = is
all_commands whole app [] (shape ∷ shapes) are is = absurd are
all_commands whole app (command ∷ rest) [] are is = absurd are
all_commands whole app (Ok command ∷ rest) (shape ∷ shapes) are is = (are.1, subst (λ (s : Shape). IsWholeWith whole rest (with_subcommand app s)) (sym are.0) (all_commands whole (with_subcommand app shape) rest shapes are.2 is))
all_commands whole app (Err e ∷ rest) (shape ∷ shapes) are is = tt
