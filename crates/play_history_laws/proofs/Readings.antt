-- A world in which no step has failed, no fault is told and all client objects are in is read as it is.
use Rattle.std.proofs.Common.{◌≡◌, ℕ, suc, ◌<◌, ◌≤◌, Bool, true, false, not, ◌&&◌, List, [], ◌∷◌, All, length, map, slice_get, Some, refl, sym, ◌∙◌, ap, subst, arith}
use Rattle.std.specs.Prelude.{cond, count_by}
use Rattle.std.proofs.lemmas.List.Sums.{sum_by-cons}
use Rattle.omx_types.specs.declared.command.Note.{Note}
use Rattle.il_machine.specs.declared.port.PortKey.{PortKey}
use Rattle.il_machine.specs.Sound.{Sound}
use Rattle.il_machine.specs.World.{Component, World}
use Rattle.machine_laws.proofs.Finding.{either}
use Rattle.play_build_laws.specs.Dismantling.{IsParted, IsResting}
use Rattle.read_world_laws.specs.Inside.{taken_in}
use Rattle.read_world_laws.specs.Mended.{is_fault, mended, without_faults}

unfaulted : (notes : List Note) → count_by is_fault notes ≤ 0 → without_faults notes ≡ notes
unfaulted [] b = refl
unfaulted (n ∷ notes) b =
    let more = sum_by-cons (λ (m : Note). cond (is_fault m) 1 0) n notes in
    either (is_fault n)
    (λ t. let one : ◌≡◌ {A = ℕ} (cond (is_fault n) 1 0) 1 = ap (λ (q : Bool). cond q 1 0) t in absurd (omega (arith, b, more, one)))
    (λ f.
    let none : ◌≡◌ {A = ℕ} (cond (is_fault n) 1 0) 0 = ap (λ (q : Bool). cond q 1 0) f in
    ap (λ (q : Bool). cond q (without_faults notes) (n ∷ without_faults notes)) f ∙ ap (λ (ns : List Note). n ∷ ns) (unfaulted notes (omega (arith, b, more, none))))

ended_so : (e f : Bool) → f ≡ false → (e && not f) ≡ e
ended_so e true h = absurd cc
ended_so true false h = refl
ended_so false false h = refl

same_as_read : (c : Component) → c.part.failed ≡ false → count_by is_fault c.notes ≤ 0 → c.client_out ≡ false → taken_in (mended c) ≡ c
same_as_read c f n o =
    let e = ended_so c.part.ended c.part.failed f in
    let m = unfaulted c.notes n in
    λ i. record c { part = record c.part { ended = e i; failed = sym f i }; notes = m i; client_out = sym o i }

pub all_as_read : (cs : List Component)
    → ((i : ℕ) (c : Component) → slice_get cs i ≡ Some c → (c.part.failed ≡ false) × (count_by is_fault c.notes ≤ 0) × (c.client_out ≡ false)) → map taken_in (map mended cs) ≡ cs
all_as_read [] h = refl
all_as_read (c ∷ cs) h =
    let a = h 0 c refl in
    let s = same_as_read c a.0 a.1 a.2 in
    let r = all_as_read cs (λ i d e. h (suc i) d e) in
    λ i. s i ∷ r i

-- what is joined is so in each sound world of the same components and headers
pub parted_in : (end : Bool → ℕ → PortKey) (links : ℕ) (u v : World) → u.components ≡ v.components → u.headers ≡ v.headers → Sound v → IsParted end links 0 u → IsParted end links 0 v
parted_in end links u v e h S J =
    let Q = J.quiet in
    record {
      quiet = record {
        sound = S;
        headers = sym h ∙ Q.headers;
        components = subst (λ (cs : List Component). All IsResting cs) e Q.components;
        numbered = λ i a f. Q.numbered i a (ap (λ (cs : List Component). slice_get cs i) e ∙ f);
      };
      inside = λ side l b. subst (λ (cs : List Component). (end side l).component < length cs) e (J.inside side l b);
      joined = λ side l a n b f. J.joined side l a n b (ap (λ (cs : List Component). slice_get cs (end side l).component) e ∙ f);
      only = λ i port a s f g t. J.only i port a s (ap (λ (cs : List Component). slice_get cs i) e ∙ f) g t;
    }
