use Rattle.std.proofs.Common.{ℕ, Option, ◌≡◌, ◌+◌, [], ◌∷◌, List, length, suc, sym, ap, subst, ◌∙◌, arith}
use Rattle.std.specs.Prelude.{Result, Ok, Err, IfOk}
use Rattle.std.proofs.lemmas.List.{append-nil, length-replicate}
use Rattle.history.specs.declared.call.TableCall.{TableCall}
use Rattle.history.specs.declared.key.Key.{Key}
use Rattle.script_run.specs.Lines.{lines_of}
use Rattle.caller_plans.specs.declared.draft.Draft.{Draft}
use Rattle.caller_plans.specs.declared.fate.LineFault.{LineFault}
use Rattle.caller_plans.specs.Plans.{AllSay, faults_from}
use Rattle.caller_plans.specs.Asks.{all_asked}
use Rattle.caller_plans.specs.Drafts.{empty_draft, begun_in, all_drafted, all_faults}
use Rattle.caller_plans.proofs.Drafting.{first_within, first_drafted, first_asked, asked_last}
use Rattle.caller_plans.proofs.script.read_script.Goals as goal

pub loop-line-init : goal.loop-line-init
loop-line-init c =
    let drafts = c.in_ok-reading.ensures.drafts in
    record {
      reads = λ rest says. (
        rest,
        says,
        ap (λ (fs : List LineFault). all_faults 1 (record { faults = fs; drafts = c.in_ok-reading.reading.drafts; asks = c.in_ok-reading.reading.asks }) rest) c.in_ok-reading.ensures.faults
            ∙ ap (λ (b : ℕ → Option (List TableCall)). faults_from 1 b rest) (ap begun_in drafts ∙ first_within c.args.callers),
        ap (λ (ds : List Draft). all_drafted 0 ds rest) drafts ∙ first_drafted 0 c.args.callers rest,
        ap (λ (ks : List (List Key)). all_asked 0 ks rest) c.in_ok-reading.ensures.asks ∙ first_asked 0 c.args.readers rest,
      );
      count = ap length drafts ∙ length-replicate c.args.callers empty_draft;
      readers = ap length c.in_ok-reading.ensures.asks ∙ length-replicate c.args.readers [];
      number = omega arith;
    }

pub loop-line-preserved : goal.loop-line-preserved
loop-line-preserved c =
    let takes = c.in_ok-take.ensures in
    record {
      reads = λ rest says.
          let all = c.loop-line.invariant.reads (c.read_joint_line.result ∷ rest) (subst (λ (lines : List (List ℕ)). AllSay c.args.callers c.args.readers lines (c.read_joint_line.result ∷ rest)) (sym c.in-Some.ensures.0) (c.read_joint_line.ensures, says)) in (
            all.0,
            all.1,
            ap (λ (n : ℕ). all_faults n c.take.new.self rest) (let next : c.loop-line.number + 1 ≡ suc c.loop-line.number = omega arith in next) ∙ (takes.faults rest ∙ all.2),
            takes.plans rest ∙ all.3,
            takes.asks rest ∙ all.4,
          );
      count = takes.count ∙ c.loop-line.invariant.count;
      readers = takes.readers ∙ c.loop-line.invariant.readers;
      number = omega (arith, c.in-Some.ensures.1, c.loop-line.invariant.number);
    }

each : {T E : Type 0} {P Q R S : T → Type 0} (r : Result T E) → ((x : T) → P x → Q x → R x → S x) → IfOk r P → IfOk r Q → IfOk r R → IfOk r S
each (Ok x) makes p q r = makes x p q r
each (Err e) makes p q r = p

pub returns : goal.returns
returns c =
    let reading = c.loop-line.reading in
    let none : lines_of c.loop-line.rest.now ≡ [] = ap lines_of c.in_default.ensures in
    let all = c.loop-line.invariant.reads [] (subst (λ (lines : List (List ℕ)). AllSay c.args.callers c.args.readers lines []) (sym none) tt) in
    each c.ended.result
    (λ script faults plans asks. (
      all.0,
      all.1,
      faults ∙ (sym (append-nil reading.faults) ∙ all.2),
      plans ∙ all.3,
      asks ∙ sym (asked_last 0 reading.asks.items) ∙ all.4,
    ))
    c.ended.ensures.faults c.ended.ensures.plans c.ended.ensures.asks
