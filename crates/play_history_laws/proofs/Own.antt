-- What some passes request among others that request nothing.
use Rattle.std.proofs.Common.{◌≡◌, ℕ, suc, Bool, List, [], ◌∷◌, refl, sym, ◌∙◌, ap}
use Rattle.std.specs.Prelude.{cond, filter}
use Rattle.il_machine.specs.Acts.{Act, Reply}
use Rattle.machine_laws.proofs.Finding.{either}
use Rattle.play_log.specs.Entries.{Entry, step_of, steps_of}
use Rattle.play_history_laws.specs.Requests.{is_request, requests}
use Rattle.play_result_laws.specs.Passes.{own_steps}
use Rattle.play_history_laws.specs.Passes.{RequestAlone}

module _ (own : ℕ → Bool) where
  abbrev is_own : Entry → Bool
  is_own entry = own entry.pass

  -- with the entry, or without it
  abbrev own_with : Entry → List Entry → Bool → List (Act × Reply)
  own_with entry entries its = requests (steps_of (cond its (entry ∷ filter is_own entries) (filter is_own entries)))

  pub own_requests : (entries : List Entry) → RequestAlone own entries → requests (steps_of entries) ≡ requests (own_steps own entries)
  own_requests [] N = refl
  own_requests (e ∷ entries) N =
      let r = own_requests entries (λ place entry f o. N (suc place) entry f o) in
      either (own e.pass)
      (λ t. ap (λ (ys : List (Act × Reply)). cond (is_request (step_of e)) (step_of e ∷ ys) ys) r ∙ sym (ap (own_with e entries) t))
      (λ f. ap (λ (b : Bool). cond b (step_of e ∷ requests (steps_of entries)) (requests (steps_of entries))) (N 0 e refl f) ∙ (r ∙ sym (ap (own_with e entries) f)))
