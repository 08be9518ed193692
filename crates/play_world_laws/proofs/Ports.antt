-- How the state of a port goes on as the change of its link does.
use Rattle.std.proofs.Common.{◌≡◌, inl, inr, ℕ, Bool, true, false, not, Some, None, refl, sym, ◌∙◌, ap}
use Rattle.il_machine.specs.declared.port.Link.{Link}
use Rattle.il_machine.specs.declared.port.Mode.TheVariants.{Steady}
use Rattle.il_machine.specs.declared.port.PortState.{PortState}
use Rattle.il_machine.specs.Commands.{disabling, enabling}
use Rattle.il_machine.specs.Due.{unheld}
use Rattle.play_model.specs.Changes.{Change, HasCompletion, conducted, port_at, port_on, told_on}
use Rattle.play_world_laws.specs.Changing.{state_by}

-- two states that agree at a number agree where it is that
agree_at : (P Q : ℕ → PortState) (n m : ℕ) → n ≡ m → P m ≡ Q m → P n ≡ Q n
agree_at P Q n m e h = ap P e ∙ (h ∙ sym (ap Q e))

abbrev at_step : Change → ℕ → Change
at_step k step = record k { step = step }

abbrev at_output : Change → ℕ → Change
at_output k n = record k { output = n }

abbrev at_input : Change → ℕ → Change
at_input k n = record k { input = n }

module _ (k : Change) (link : Link) where
  pub announced_state : k.step ≡ 0 → record (state_by true k link) { held = true } ≡ state_by true (told_on k) link
  announced_state e = agree_at (λ s. record (state_by true (at_step k s) link) { held = true }) (λ s. state_by true (told_on (at_step k s)) link) k.step 0 e refl

  pub dropped_state : (output : Bool) → k.step ≡ 4 → record (state_by output k link) { link = None } ≡ state_by output (conducted k) link
  dropped_state true e = agree_at (λ s. record (state_by true (at_step k s) link) { link = None }) (λ s. state_by true (conducted (at_step k s)) link) k.step 4 e refl
  dropped_state false e = agree_at (λ s. record (state_by false (at_step k s) link) { link = None }) (λ s. state_by false (conducted (at_step k s)) link) k.step 4 e refl

  pub set_output_state : (output : Bool) → k.step ≡ 5 → unheld (state_by output k link) ≡ state_by output (conducted k) link
  set_output_state true e = agree_at (λ s. unheld (state_by true (at_step k s) link)) (λ s. state_by true (conducted (at_step k s)) link) k.step 5 e refl
  set_output_state false e = agree_at (λ s. unheld (state_by false (at_step k s) link)) (λ s. state_by false (conducted (at_step k s)) link) k.step 5 e refl

  pub set_input_state : (output : Bool) → k.step ≡ 6 → unheld (state_by output k link) ≡ state_by output (conducted k) link
  set_input_state true e = agree_at (λ s. unheld (state_by true (at_step k s) link)) (λ s. state_by true (conducted (at_step k s)) link) k.step 6 e refl
  set_input_state false e = agree_at (λ s. unheld (state_by false (at_step k s) link)) (λ s. state_by false (conducted (at_step k s)) link) k.step 6 e refl

  pub joined_again : (output : Bool) → k.step ≡ 7 → record (state_by output k link) { link = Some link } ≡ state_by output (conducted k) link
  joined_again true e = agree_at (λ s. record (state_by true (at_step k s) link) { link = Some link }) (λ s. state_by true (conducted (at_step k s)) link) k.step 7 e refl
  joined_again false e = agree_at (λ s. record (state_by false (at_step k s) link) { link = Some link }) (λ s. state_by false (conducted (at_step k s)) link) k.step 7 e refl

  pub disabling_state : (output : Bool) → port_at output k ≡ 1 → disabling (state_by output k link) ≡ state_by output (port_on output k) link
  disabling_state true e = agree_at (λ n. disabling (state_by true (at_output k n) link)) (λ n. state_by true (port_on true (at_output k n)) link) k.output 1 e refl
  disabling_state false e = agree_at (λ n. disabling (state_by false (at_input k n) link)) (λ n. state_by false (port_on false (at_input k n)) link) k.input 1 e refl

  pub disabled_state : (output : Bool) → port_at output k ≡ 2 → record (state_by output k link) { mode = Steady } ≡ state_by output (port_on output k) link
  disabled_state true e = agree_at (λ n. record (state_by true (at_output k n) link) { mode = Steady }) (λ n. state_by true (port_on true (at_output k n)) link) k.output 2 e refl
  disabled_state false e = agree_at (λ n. record (state_by false (at_input k n) link) { mode = Steady }) (λ n. state_by false (port_on false (at_input k n)) link) k.input 2 e refl

  pub enabling_state : (output : Bool) → port_at output k ≡ 5 → enabling (state_by output k link) ≡ state_by output (port_on output k) link
  enabling_state true e = agree_at (λ n. enabling (state_by true (at_output k n) link)) (λ n. state_by true (port_on true (at_output k n)) link) k.output 5 e refl
  enabling_state false e = agree_at (λ n. enabling (state_by false (at_input k n) link)) (λ n. state_by false (port_on false (at_input k n)) link) k.input 5 e refl

  pub enabled_state : (output : Bool) → port_at output k ≡ 6 → record (state_by output k link) { mode = Steady } ≡ state_by output (port_on output k) link
  enabled_state true e = agree_at (λ n. record (state_by true (at_output k n) link) { mode = Steady }) (λ n. state_by true (port_on true (at_output k n)) link) k.output 6 e refl
  enabled_state false e = agree_at (λ n. record (state_by false (at_input k n) link) { mode = Steady }) (λ n. state_by false (port_on false (at_input k n)) link) k.input 6 e refl

  -- what is told changes no port, and what is done at one end nothing at the other
  pub told_state : (output : Bool) → HasCompletion (port_at output k) → state_by output (port_on output k) link ≡ state_by output k link
  told_state true (inl e) = agree_at (λ n. state_by true (port_on true (at_output k n)) link) (λ n. state_by true (at_output k n) link) k.output 3 e refl
  told_state true (inr e) = agree_at (λ n. state_by true (port_on true (at_output k n)) link) (λ n. state_by true (at_output k n) link) k.output 7 e refl
  told_state false (inl e) = agree_at (λ n. state_by false (port_on false (at_input k n)) link) (λ n. state_by false (at_input k n) link) k.input 3 e refl
  told_state false (inr e) = agree_at (λ n. state_by false (port_on false (at_input k n)) link) (λ n. state_by false (at_input k n) link) k.input 7 e refl

  pub other_state : (output : Bool) → state_by (not output) (port_on output k) link ≡ state_by (not output) k link
  other_state true = refl
  other_state false = refl
