-- What a header was made for stays so as long as it is made.
use Rattle.std.proofs.Common.{◌≡◌, ◌≢◌, inl, inr, ℕ, ◌≤◌, Bool, ◌||◌, List, Some, None, option_map, refl, sym, ◌∙◌, ap, arith}
use Rattle.std.proofs.lemmas.Bool.{cases_eq}
use Rattle.il_machine.specs.declared.header.HeaderState.{HeaderState}
use Rattle.il_machine.specs.declared.port.PortKey.{PortKey}
use Rattle.il_machine.specs.World.{HeaderRecord, World}
use Rattle.il_machine.specs.Headers.{find_header, is_for, is_key, same_key, state_of, without, empty_load, Once}
use Rattle.il_machine.specs.Look.{look}
use Rattle.il_machine.specs.Acts.{Act, Reply}
use Rattle.il_machine.specs.Run.{Step, Meets}
use Rattle.il_machine.specs.Sound.{Sound}
use Rattle.il_machine.specs.Trails.{Move}
use Rattle.machine_laws.proofs.Finding.{push_else, without_else, without_same}
use Rattle.machine_laws.proofs.Parts.{parts_of}
use Rattle.history_laws.proofs.Owners.{Settles, Stand, stand_of}
use Rattle.history_laws.proofs.Closing.{times_settle, times_made}
use Rattle.history_laws.proofs.Carried.{Carried, Still, Made, Gone, Moved, Several}
use Rattle.history_laws.proofs.ClientHeaders.{settled_found, carried_once}
use Rattle.history_laws.proofs.Homes.{found_state}
use Rattle.history_laws.proofs.Outcome.{Turn, turn, Outcome, Nothing, Done}
use Rattle.history_laws.proofs.Steps.{step_comes}

-- the header of the number was made for the same ports
record WasMade (hs : List HeaderRecord) (number : ℕ) (r : HeaderRecord) : Type 0 where
  was : HeaderRecord
  found : find_header number hs ≡ Some was
  same : (key : PortKey) → is_for key r.state ≡ is_for key was.state

was_itself : (hs : List HeaderRecord) (number : ℕ) (r : HeaderRecord) → find_header number hs ≡ Some r → WasMade hs number r
was_itself hs number r f = record { was = r; found = f; same = λ key. refl }

-- the header that stands so was made for the port
abbrev is_for_stand : PortKey → Stand → Bool
is_for_stand key s = same_key s.port key || is_key key s.peer

-- the act made none of that number
carried_made : (w v : World) (ms : List Move) (number : ℕ) (r : HeaderRecord) → Once w.headers → number ≢ w.made → Carried w ms v → find_header number v.headers ≡ Some r → WasMade w.headers number r
carried_made w v ms number r once n (Still S) f = was_itself w.headers number r (ap (find_header number) (sym S.headers) ∙ f)
carried_made w v ms number r once n (Made M) f =
    was_itself w.headers number r (sym (ap (find_header number) M.headers ∙ push_else number w.headers (record { state = M.state; load = empty_load M.memory }) (λ k. n (sym k ∙ M.number))) ∙ f)
carried_made w v ms number r once n (Gone M) f = elim (cases_eq number M.number) [
  | inl is ↦
      let none : find_header number v.headers ≡ None = ap (find_header number) M.headers ∙ (ap (λ (k : ℕ). find_header k (without M.number w.headers)) is ∙ without_same M.number w.headers once) in
      let e : None ≡ Some r = sym none ∙ f in
      absurd cc
  | inr a ↦ was_itself w.headers number r (sym (ap (find_header number) M.headers ∙ without_else M.number number w.headers a) ∙ f)
]
carried_made w v ms number r once n (Moved M) f = elim (cases_eq number M.number) [
  | inl is ↦
      let there : find_header number v.headers ≡ Some M.now = ap (λ (k : ℕ). find_header k v.headers) is ∙ (M.replaced).here in
      let s : Some r ≡ Some M.now = sym f ∙ there in
      let q : r ≡ M.now = cc in
      record {
        was = M.was;
        found = ap (λ (k : ℕ). find_header k w.headers) is ∙ (M.replaced).was;
        same = λ key. ap (λ (x : HeaderRecord). is_for key x.state) q ∙ M.made_for key;
      }
  | inr a ↦ was_itself w.headers number r (sym ((M.replaced).others number a) ∙ f)
]
carried_made w v ms number r once n (Several M) f = elim ((M.headers).each number) [
  | inl x ↦ was_itself w.headers number r (sym x.0 ∙ f)
  | inr P ↦
      let s : Some r ≡ Some P.now = sym f ∙ P.here in
      let q : r ≡ P.now = cc in
      record { was = P.was; found = P.found; same = λ key. ap (λ (x : HeaderRecord). is_for key x.state) q ∙ P.made_for key }
]

-- over the close-out
settled_made : (hs ks : List HeaderRecord) (number : ℕ) (r : HeaderRecord) → Settles hs ks → find_header number ks ≡ Some r → WasMade hs number r
settled_made hs ks number r T f =
    let x = settled_found number r (find_header number hs) (sym (T.stands number) ∙ ap (option_map stand_of) f) in
    record { was = x.0; found = x.1; same = λ key. ap (λ (y : Stand). is_for_stand key y) (sym x.2) }

made_on : (hs ks ls : List HeaderRecord) (number : ℕ) (r : HeaderRecord) (B : WasMade ks number r) → WasMade hs number B.was → WasMade hs number r
made_on hs ks ls number r B A = record { was = A.was; found = A.found; same = λ key. B.same key ∙ A.same key }

outcome_made : (w : World) (a : Act) (r : Reply) (v : World) (number : ℕ) (x : HeaderRecord) → Sound w → number ≢ w.made → Outcome w (turn w a r) v → find_header number v.headers ≡ Some x → WasMade w.headers number x
outcome_made w a r v number x S n (Nothing e m) f = was_itself w.headers number x (ap (λ (y : World). find_header number y.headers) (sym e) ∙ f)
outcome_made w a r v number x S n (Done C E) f =
    let t = turn w a r in
    let once = carried_once w t.after t.moves S.once (parts_of w S).below E.carried in
    let B = settled_made t.after.headers v.headers number x (times_settle C.steps t.after v C.by_steps once) f in
    made_on w.headers t.after.headers v.headers number x B (carried_made w t.after t.moves number B.was S.once n E.carried B.found)

-- A header of another number than the next one was made before the step, for the same ports.
pub record WasMadeFor (w : World) (number : ℕ) (s : HeaderState) : Type 0 where
  pub was : HeaderState
  pub there : (look w).headers.header number ≡ Some was
  pub same : (key : PortKey) → is_for key s ≡ is_for key was

pub made_for_step : (w : World) (a : Act) (r : Reply) (v : World) (number : ℕ) (s : HeaderState) → Sound w → Meets w a → Step w a r v → number ≢ w.made → (look v).headers.header number ≡ Some s → WasMadeFor w number s
made_for_step w a r v number s S M h n e =
    let x = found_state number v s e in
    let B = outcome_made w a r v number x.0 S n (step_comes w a r v S M h) x.1 in
    record {
      was = (B.was).state;
      there = ap (option_map state_of) B.found;
      same = λ key. ap (is_for key) (sym x.2) ∙ B.same key;
    }

-- ---- no number of a header comes twice

carried_grows : (w v : World) (ms : List Move) → Carried w ms v → w.made ≤ v.made
carried_grows w v ms (Still S) = let e = S.made in omega (arith, e)
carried_grows w v ms (Made M) = let e = M.made in omega (arith, e)
carried_grows w v ms (Gone M) = let e = M.made in omega (arith, e)
carried_grows w v ms (Moved M) = let e = M.made in omega (arith, e)
carried_grows w v ms (Several M) = let e = M.made in omega (arith, e)

outcome_grows : (w v : World) (t : Turn) → Outcome w t v → w.made ≤ v.made
outcome_grows w v t (Nothing e m) = let k : v.made ≡ w.made = ap (λ (x : World). x.made) e in omega (arith, k)
outcome_grows w v t (Done C E) =
    let k = times_made C.steps t.after v C.by_steps in
    let l = carried_grows w t.after t.moves E.carried in
    omega (arith, k, l)

pub made_grows : (w : World) (a : Act) (r : Reply) (v : World) → Sound w → Meets w a → Step w a r v → w.made ≤ v.made
made_grows w a r v S M h = outcome_grows w v (turn w a r) (step_comes w a r v S M h)
