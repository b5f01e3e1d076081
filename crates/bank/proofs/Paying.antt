-- What the calls of a payment come to, if each of them was granted.
use Rattle.std.proofs.Common.{◌≡◌, ℕ, ◌+◌, ◌-◌, ◌^◌, ◌<◌, ◌≤◌, [], ◌∷◌, ◌++◌, Option, Some, unwrap_or, refl, sym, ◌∙◌, ap}
use Rattle.std.specs.Prelude.{decimal}
use Rattle.std.specs.FinMap.{insert}
use Rattle.history.specs.Key.{main_name, of_main}
use Rattle.history.specs.Table.{Granted, left_by}
use Rattle.history.specs.declared.call.TableCall.{TableCall}
use Rattle.history.specs.declared.call.TableCall.TheVariants.{Get, Put}
use Rattle.history.specs.declared.call.Reply.{Reply}
use Rattle.history.specs.declared.call.Reply.TheVariants.{Fine, Found}
use Rattle.caller_steps.specs.Core.{CoreView}
use Rattle.caller_steps.specs.State.{records_of}
use Rattle.transactions.specs.Adds.{Stays, Adds}
use Rattle.transactions.specs.Makes.{Holds}
use Rattle.transactions.proofs.Reading.{read_is}
use Rattle.bank.specs.Accounts.{Transfers}

pub one_more : (caller : ℕ) (old new : CoreView) (calls : Granted) (call : TableCall) (reply : Reply) → old.state.live caller ≡ Some calls → Adds caller call reply old new → new.state.live caller ≡ Some (calls ++ (call, reply) ∷ [])
one_more caller old new calls call reply live adds = adds ∙ ap (λ (o : Option Granted). Some (unwrap_or o [] ++ (call, reply) ∷ [])) live

pub paid_over : (caller from to amount paying paid less more : ℕ) (old first second third last : CoreView) → old.state.live caller ≡ Some [] → Stays caller old first → Stays caller old second
    → Adds caller (Get main_name from) (Found (decimal paying)) old first → Adds caller (Get main_name to) (Found (decimal paid)) first second
    → Adds caller (Put main_name from (decimal less)) Fine second third → Adds caller (Put main_name to (decimal more)) Fine third last
    → amount ≤ paying → paying < 2 ^ 64 → paid + amount < 2 ^ 64 → less ≡ paying - amount → more ≡ paid + amount
    → Holds (λ calls. Transfers from to amount (records_of old.state) (left_by (records_of old.state) calls)) caller last
paid_over caller from to amount paying paid less more old first second third last begun one two a b d e enough small fits less_is more_is =
    let read_from : TableCall × Reply = (Get main_name from, Found (decimal paying)) in
    let read_to : TableCall × Reply = (Get main_name to, Found (decimal paid)) in
    let wrote_from : TableCall × Reply = (Put main_name from (decimal less), Fine) in
    let live_first = one_more caller old first [] read_from.0 read_from.1 begun a in
    let live_second = one_more caller first second (read_from ∷ []) read_to.0 read_to.1 live_first b in
    let live_third = one_more caller second third (read_from ∷ read_to ∷ []) wrote_from.0 wrote_from.1 live_second d in
    record {
      calls = read_from ∷ read_to ∷ wrote_from ∷ (Put main_name to (decimal more), Fine) ∷ [];
      live = one_more caller third last (read_from ∷ read_to ∷ wrote_from ∷ []) (Put main_name to (decimal more)) Fine live_third e;
      does = record {
        payer = paying;
        payee = paid;
        has_payer = sym (read_is caller from main_name old old first [] one begun refl (Some (decimal paying)) a);
        has_payee = sym (read_is caller to main_name old first second (read_from ∷ []) two live_first refl (Some (decimal paid)) b);
        enough = enough;
        small = small;
        fits = fits;
        becomes = λ i. insert (insert (records_of old.state) (of_main from) (decimal (less_is i))) (of_main to) (decimal (more_is i));
      };
    }
