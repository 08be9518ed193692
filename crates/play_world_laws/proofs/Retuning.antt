-- The two ends of a link between its disable and its enable: nothing is queued at them of it, and no work of theirs is out.
use Rattle.std.proofs.Common.{◌≡◌, ◌≢◌, inl, inr, ℕ, zero, suc, ◌+◌, ◌<◌, ◌≤◌, Bool, true, false, not, nat_le, List, [], ◌++◌, slice_get, Some, None, refl, sym, ◌∙◌, ap, subst, le-leb, arith}
use Rattle.std.proofs.lemmas.Bool.{cases_eq}
use Rattle.il_machine.specs.declared.port.PortState.{PortState}
use Rattle.il_machine.specs.Finishing.{end_note}
use Rattle.il_machine.specs.Queued.{notes_given}
use Rattle.il_machine.specs.Settings.{Settings}
use Rattle.il_machine.specs.World.{Component, World, number_of}
use Rattle.play_model.specs.Acts.{Act, CanAct, acted}
use Rattle.play_model.specs.Changes.{Change, IsHalfChanged, IsInOrder, conducted, port_at}
use Rattle.play_model.specs.Play.{Play, component_at, made}
use Rattle.play_world_laws.specs.Cast.{links_of, script_place}
use Rattle.play_world_laws.specs.Standing.{commands_at, standing}
use Rattle.play_world_laws.specs.Telling.{heard, last_note, state_note, unheard}
use Rattle.play_world_laws.specs.Worlds.{ends_untold}
use Rattle.play_world_laws.specs.Changing.{commands_of_port, notes_of_port, told_of_port}
use Rattle.play_world_laws.specs.PlayWorlds.{HasHeard, IsActorAt, IsPlayWorld, IsSetFor, PlayCast, announced_note, port_notes, port_number, settings_notes}
use Rattle.play_world_laws.proofs.Around.{IsQuiet, change_else}
use Rattle.play_world_laws.proofs.ChangeEnds.{end_inside, ends_apart}
use Rattle.play_world_laws.proofs.One.{IsTurned}
use Rattle.play_world_laws.proofs.Sending.{IsTurnOf, turn_of}
use Rattle.play_world_laws.proofs.Turning.{commands_turned, heard_turned, no_work_at, notes_turned, rises_turned, settings_at, settings_turned}

-- the acts of the conductor between the disable and the enable
abbrev pub IsRetuning : ℕ → Type 0
IsRetuning n = (4 ≤ n) × (n ≤ 7)

ports_stay_at : (n output input : ℕ) → IsRetuning n → conducted (record { step = n; output = output; input = input }) ≡ record { step = n + 1; output = output; input = input }
ports_stay_at zero output input h = absurd (omega (arith, h.0))
ports_stay_at (suc zero) output input h = absurd (omega (arith, h.0))
ports_stay_at (suc (suc zero)) output input h = absurd (omega (arith, h.0))
ports_stay_at (suc (suc (suc zero))) output input h = absurd (omega (arith, h.0))
ports_stay_at (suc (suc (suc (suc zero)))) output input h = refl
ports_stay_at (suc (suc (suc (suc (suc zero))))) output input h = refl
ports_stay_at (suc (suc (suc (suc (suc (suc zero)))))) output input h = refl
ports_stay_at (suc (suc (suc (suc (suc (suc (suc zero))))))) output input h = refl
ports_stay_at (suc (suc (suc (suc (suc (suc (suc (suc n)))))))) output input h = absurd (omega (arith, h.1))

pub retuned : (k : Change) → IsRetuning k.step → conducted k ≡ record k { step = k.step + 1 }
retuned k h = ports_stay_at k.step k.output k.input h

pub port_stays : (k : Change) → IsRetuning k.step → (s : Bool) → port_at s (conducted k) ≡ port_at s k
port_stays k h true = ap (λ (z : Change). z.output) (retuned k h)
port_stays k h false = ap (λ (z : Change). z.input) (retuned k h)

module _ (x : PlayCast) (recent : ℕ) (p : Play) (w : World) (W : IsPlayWorld x recent p w) (l : ℕ) (C : CanAct (x.cast).layout p (Act.Conduct l)) (h : IsRetuning (p.change l).step) where
  abbrev k : Change
  k = p.change l

  -- both ports are disabled
  pub disabled : (s : Bool) → port_at s k ≡ 4
  disabled s = elim (cases_eq k.step 4) [
    | inl e ↦ by_drop s (C.disabled e)
    | inr n ↦ let O = ((W.reached).changes l C.below).order in by_told s O (let m = h.0 in omega arith)
  ]
    where
      by_drop : (s : Bool) → (k.output ≡ 4) × (k.input ≡ 4) → port_at s k ≡ 4
      by_drop true d = d.0
      by_drop false d = d.1

      by_told : (s : Bool) → IsInOrder k → 5 ≤ k.step → port_at s k ≡ 4
      by_told true O m = let a = O.told m in let b = O.output_waits (let n = h.1 in omega arith) in let c = a.0 in omega arith
      by_told false O m = let a = O.told m in let b = O.input_waits (let n = h.1 in omega arith) in let c = a.1 in omega arith

  -- and no header of the link is made
  pub none_made : made p l ≡ 0
  none_made = let d = disabled true in ((W.reached).changes l C.below).emptied (inl (omega arith, omega arith))

  pub turn : IsTurnOf x recent p l
  turn = turn_of x recent p w l W C

  pub later_half : (j : ℕ) → j < links_of x.cast → ((x.cast).layout).is_late j ≡ true → IsHalfChanged ((acted (x.cast).layout (Act.Conduct l) p).change j) → j ≡ l
  later_half j d t g = elim (cases_eq j l) [
    | inl s ↦ s
    | inr n ↦ turn.alone j d t (subst (λ (z : Change). IsHalfChanged z) (change_else l conducted p j n) g)
  ]

  pub quiet_end : (s : Bool) → IsQuiet s k (conducted k)
  quiet_end s = record { port = port_stays k h s; told = λ _. (let m = h.0 in omega arith, let m = h.0 in let e = ap (λ (z : Change). z.step) (retuned k h) in omega arith) }

  -- ---- the component at an end, with other settings and states of ports

  module _ (o : Bool) (a : Component) (e : slice_get w.components (script_place x.cast (component_at (x.cast).layout o l)) ≡ Some a) where
    abbrev c : ℕ
    c = component_at (x.cast).layout o l

    pub its_actor : IsActorAt x recent p w c a
    its_actor = W.actors c a (end_inside x recent p w W o l C.below) e

    apart : component_at (x.cast).layout (not o) l ≢ c
    apart = ends_apart x recent p w W o l C.below

    pub no_work : a.work ≡ None
    no_work = no_work_at x recent p w W l C.below C.late c o refl a e its_actor (let d = disabled o in omega arith) (let m = h.0 in omega arith)

    module _ (v : World) (given : v.given ≡ w.given) (settings : Settings) (ports : List PortState) (kind : settings.kind ≡ a.settings.kind) (S : IsSetFor x c settings) where
      abbrev q : Play
      q = acted (x.cast).layout (Act.Conduct l) p

      abbrev b : Component
      b = record a { settings = settings; ports = ports }

      settings_stay : settings_notes x.cast q c ≡ settings_notes x.cast p c
      settings_stay = settings_turned x recent l p l conducted c o refl apart (same o)
        where
          none : (n m : ℕ) → 2 ≤ n → announced_note n m ≡ []
          none zero m d = absurd (omega arith)
          none (suc zero) m d = absurd (omega arith)
          none (suc (suc n)) m d = refl

          same : (s : Bool) → settings_at x.cast s l (conducted k) ≡ settings_at x.cast s l k
          same true = let Q = (quiet_end true).told refl in none (conducted k).step ((x.cast).output_port l) Q.1 ∙ sym (none k.step ((x.cast).output_port l) Q.0)
          same false = refl

      pub retuned_turn : IsTurned x recent l p l conducted w v c a b
      retuned_turn =
          let A = its_actor in
          let port : ℕ = port_number x.cast o l in
          let same = port_stays k h o in
          let cs = commands_turned x recent l p l conducted c o refl apart (ap (λ m. commands_of_port m port) same) in
          let ns = notes_turned x recent l p l conducted c o refl apart (ap (λ m. notes_of_port m port) same) in
          let ss = settings_stay in
          let two : o ≡ true → nat_le 2 (conducted k).step ≡ nat_le 2 k.step = λ _. let m = h.0 in let s = ap (λ (z : Change). z.step) (retuned k h) in le-leb 2 (conducted k).step (omega arith) ∙ sym (le-leb 2 k.step (omega arith)) in
          let told = given in
          let was : IsTurned x recent l p l conducted w w c a b = record {
            handle = refl;
            kind = kind;
            set_for = S;
            rises = rises_turned x recent l p l conducted c o refl apart (let s = same in omega arith);
            file = refl;
            part = refl;
            stands = ap (λ (z : Component). record z { settings = settings; ports = ports }) A.stands ∙ (λ i. record (standing p.phase (p.stage c) b) { commands = commands_at p.phase (p.stage c) ++ sym cs i });
            notes = A.notes ∙ (λ i. state_note p.phase (p.stage c) ++ (sym ss i ++ (sym ns i ++ end_note (ends_untold x.cast p c))));
            heard_so = heard_turned x recent l p l conducted c o refl apart turn.latest (let s = same in omega arith) (ap (λ m. told_of_port m port) same) two (heard w a) A.heard_so;
            out = A.out;
            work = λ work f. let z : None ≡ Some work = sym no_work ∙ f in absurd cc;
          } in
          record {
            handle = was.handle;
            kind = was.kind;
            set_for = was.set_for;
            rises = was.rises;
            file = was.file;
            part = was.part;
            stands = was.stands;
            notes = subst (λ g. unheard (record w { given = g }) b ≡ state_note p.phase (p.stage c) ++ (settings_notes x.cast q c ++ (port_notes x.cast q c ++ end_note (ends_untold x.cast p c)))) (sym told) was.notes;
            heard_so = subst (λ g. HasHeard x.cast l q c (heard (record w { given = g }) b)) (sym told) was.heard_so;
            out = λ t. let r = was.out t in (r.0, ap (λ g. last_note (notes_given (number_of b) (record w { given = g }))) told ∙ r.1);
            work = was.work;
          }
