use Rattle.std.proofs.Common.{List, Option, length, slice_get, refl, sym, ◌∙◌, ap, arith}
use Rattle.il_machine.specs.declared.answer.Progress.{Progress}
use Rattle.run_audit.specs.Opening.{play_sight}
use Rattle.run_audit.proofs.AtRest.{all_loaded, rests_so}
use Rattle.run_audit.proofs.ending.Replay+S+PlayClient.is_at_rest.Goals as goal

pub returns-clause-yes : goal.returns-clause-yes
returns-clause-yes g c = λ yes tells x now C I. rests_so x now C (play_sight g.S.Source) tells c.args.self.now I
    ((c.if-not-is_complete.ensures).0 refl)
    (λ place b. (let v = c.as_slice.ensures.value in let n = ap length v in ap (λ (l : List (Option Progress)). slice_get l place) (sym v) ∙ c.if-not-are_none.ensures.yes refl place (omega (arith, b, n))))
    (λ place p e. c.are_loaded.ensures.yes yes place p (ap (λ (l : List Progress). slice_get l place) c.as_slice-2.ensures.value ∙ e))

pub returns-clause-no : goal.returns-clause-no
returns-clause-no g c = λ no tells x now C I R.
    (let y = c.are_loaded.ensures.no no in all_loaded x now C (play_sight g.S.Source) tells c.args.self.now I R y.0 y.1 (ap (λ (l : List Progress). slice_get l y.0) (sym c.as_slice-2.ensures.value) ∙ y.2) y.3)
