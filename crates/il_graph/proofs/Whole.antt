-- What an act that leaves the parts alone makes of a graph with its parts.
use Rattle.std.proofs.Common.{◌≡◌, ℕ, nat_eq, List, length, map, Option, None, is_some, option_and_then, sym, ◌∙◌, ap, subst}
use Rattle.std.proofs.lemmas.List.{length-map}
use Rattle.il_machine.specs.declared.answer.Progress.{Progress}
use Rattle.il_machine.specs.World.{Component, World, is_numbered, place_numbered}
use Rattle.il_machine.specs.Places.{first_place}
use Rattle.il_machine.proofs.Places.{is_first_place}
use Rattle.il_machine.specs.Look.{Look}
use Rattle.il_machine.specs.Due.{first_due}
use Rattle.il_machine.specs.Acts.{Act, Reply}
use Rattle.il_machine.specs.Run.{Step}
use Rattle.il_machine.specs.Sound.{Sound}
use Rattle.il_machine.specs.Whole.{Kept, HasParts, Stands, Steps, StepsWhere, Always}
use Rattle.machine_laws.proofs.Steps.{HandsIn, sound_after}
use Rattle.stock_laws.specs.Bare.{StandsBare, StepsBare, StepsBareWhere, AlwaysBare}
use Rattle.stock_laws.proofs.Views.{sound_world}
use Rattle.graph_core.specs.Entries.{Entries, components_of, look_of}
use Rattle.graph_core.specs.Entries as core
use Rattle.graph_core.specs.Standing.{SoundWorld}
use Rattle.graph_core.proofs.Replacing.{first_mapped}
use Rattle.audio_parts.specs.Shown.{ShownPart}
use Rattle.il_graph.specs.Shown.{Shown, IsWhole, ArePartsOf, KeepsAllFiles, seen_parts, file_at, kept}
use Rattle.il_graph.proofs.PartsStay.{PartOf, part_of, PartsStay, LeavesParts, step_stays, stayed, has_parts_stay}

-- components with the same parts have the same numbers at the same places
pub places_alike : (n : ℕ) (cs ds : List Component) → map part_of cs ≡ map part_of ds → place_numbered n cs ≡ place_numbered n ds
places_alike n cs ds e =
    is_first_place (is_numbered n) cs
    ∙ (sym (first_mapped part_of (λ (p : PartOf). nat_eq p.number n) cs)
    ∙ (ap (first_place (λ (p : PartOf). nat_eq p.number n)) e
    ∙ (first_mapped part_of (λ (p : PartOf). nat_eq p.number n) ds ∙ sym (is_first_place (is_numbered n) ds))))

module _ {S K : Type 0} where
  -- each component of now has the part that it had
  pub parts_alike : (cs ds : List Component) (parts : List (Option (ShownPart S K))) → map part_of ds ≡ map part_of cs → ArePartsOf cs parts → ArePartsOf ds parts
  parts_alike cs ds parts alike P = record {
    there = λ i d at out.
        let x = stayed cs ds i d alike at in
        let z = P.there i x.0 x.1 (ap (λ (p : PartOf). p.work) x.2 ∙ out) in (
          z.0,
          z.1,
          record {
            kind = z.2.kind ∙ ap (λ (p : PartOf). p.kind) x.2;
            lawful = z.2.lawful;
            file = z.2.file ∙ ap (λ (p : PartOf). p.file) x.2;
            attached = z.2.attached ∙ ap (λ (p : PartOf). p.file) x.2;
            failed = z.2.failed ∙ ap (λ (p : PartOf). p.failed) x.2;
          },
        );
    away = λ i d at out. let x = stayed cs ds i d alike at in P.away i x.0 x.1 (ap (λ (p : PartOf). is_some p.work) x.2 ∙ out);
  }

pub count_alike : (cs ds : List Component) → map part_of ds ≡ map part_of cs → length cs ≡ length ds
count_alike cs ds alike = sym (length-map cs part_of) ∙ (ap length (sym alike) ∙ length-map ds part_of)

module _ {S K C : Type 0} (progress : C → Progress) where
  pub bare : (g : Shown S K C) (w : World) → Stands (kept progress g) w → StandsBare (core.kept progress g.core) w
  bare g w T = record { looks = T.looks; loads = T.loads; noticed = T.noticed; progress = T.progress; streams = T.streams; once = T.once; given = T.given }

  pub whole : (g : Shown S K C) (w : World) → StandsBare (core.kept progress g.core) w → HasParts (seen_parts g.parts) w → Stands (kept progress g) w
  whole g w T P = record { looks = T.looks; loads = T.loads; noticed = T.noticed; progress = T.progress; parts = P; streams = T.streams; once = T.once; given = T.given }

  -- the world that the graph stands for
  pub one : (g : Shown S K C) → IsWhole progress g → SoundWorld (core.kept progress g.core)
  one g I = record { world = I.worlds.world; stands = bare g I.worlds.world I.worlds.stands; sound = I.worlds.sound }

  pub sound_in : (g : Shown S K C) → IsWhole progress g → (w : World) → StandsBare (core.kept progress g.core) w → Sound w
  sound_in g I w T = sound_world (core.kept progress g.core) I.worlds.world w (bare g I.worlds.world I.worlds.stands) I.worlds.sound T

  -- where the core keeps what it kept
  pub still_whole : (g : Shown S K C) (k : Entries C) → core.kept progress k ≡ core.kept progress g.core → IsWhole progress g → IsWhole progress (record { core = k; parts = g.parts })
  still_whole g k e I =
      let looks : look_of k ≡ look_of g.core = ap (λ (x : Kept). x.looks) e in
      record {
        closed = ap first_due looks ∙ I.closed;
        count = I.count ∙ sym (ap (λ (l : Look). length l.components) looks);
        parts = subst (λ (l : Look). ArePartsOf l.components g.parts) (sym looks) I.parts;
        worlds = record { world = I.worlds.world; stands = subst (λ (x : Kept). Stands (record x { parts = seen_parts g.parts }) I.worlds.world) (sym e) I.worlds.stands; sound = I.worlds.sound };
      }

  -- what is so without the parts is so with them
  pub always : (g : Shown S K C) (Answer : World → Type 0) → AlwaysBare (core.kept progress g.core) Answer → Always (kept progress g) Answer
  always g Answer f w s = f w (bare g w s)

  -- the act leaves parts of which the world before its close-out has these
  module _ (g : Shown S K C) (k : Entries C) (a : Act) (r : Reply) (I : IsWhole progress g)
      (M : (w : World) → StandsBare (core.kept progress g.core) w → HandsIn w a) (T : StepsBare (core.kept progress g.core) (core.kept progress k) (λ w v. Step w a r v))
      (mid : World → World) (cs : List Component) (parts : List (Option (ShownPart S K)))
      (stay : (w : World) (B : StandsBare (core.kept progress g.core) w) → PartsStay (mid w) (T w B).0) (there : (w : World) → StandsBare (core.kept progress g.core) w → (mid w).components ≡ cs)
      (P : (w : World) → Stands (kept progress g) w → HasParts (seen_parts parts) (mid w)) where
    pub changed_whole : Steps (kept progress g) (kept progress (record { core = k; parts = parts })) (λ w v. Step w a r v)
    changed_whole w s =
        let B = bare g w s in
        let x = T w B in
        (x.0, whole (record { core = k; parts = parts }) x.0 x.1 (has_parts_stay (seen_parts parts) (mid w) x.0 (stay w B) (P w s)), x.2)

    pub changed_alike : map part_of (components_of k.entries) ≡ map part_of cs
    changed_alike =
        let w = I.worlds.world in
        let B = bare g w I.worlds.stands in
        let x = T w B in
        ap (λ (y : Look). map part_of y.components) (sym x.1.looks) ∙ ((stay w B).parts ∙ ap (map part_of) (there w B))

    pub changed_is_whole : first_due (look_of k) ≡ None → length parts ≡ length cs → ArePartsOf cs parts → IsWhole progress (record { core = k; parts = parts })
    changed_is_whole closed count are =
        let w = I.worlds.world in
        let x = changed_whole w I.worlds.stands in
        record {
          closed = closed;
          count = count ∙ count_alike cs (components_of k.entries) changed_alike;
          parts = parts_alike cs (components_of k.entries) parts changed_alike are;
          worlds = record { world = x.0; stands = x.1; sound = sound_after w x.0 a r (M w (bare g w I.worlds.stands)) x.2 I.worlds.sound };
        }

  -- an act that leaves the parts alone
  module _ (g : Shown S K C) (k : Entries C) (a : Act) (r : Reply) (l : LeavesParts a r) (I : IsWhole progress g)
      (M : (w : World) → StandsBare (core.kept progress g.core) w → HandsIn w a) (T : StepsBare (core.kept progress g.core) (core.kept progress k) (λ w v. Step w a r v)) where
    stay_over : (w : World) (B : StandsBare (core.kept progress g.core) w) → PartsStay w (T w B).0
    stay_over w B = step_stays w (sound_in g I w B) a r (T w B).0 (M w B) l (T w B).2

    there_over : (w : World) → StandsBare (core.kept progress g.core) w → w.components ≡ components_of g.core.entries
    there_over w B = ap (λ (y : Look). y.components) B.looks

    pub whole_over : Steps (kept progress g) (kept progress (record { core = k; parts = g.parts })) (λ w v. Step w a r v)
    whole_over = changed_whole g k a r I M T (λ w. w) (components_of g.core.entries) g.parts stay_over there_over (λ w s. s.parts)

    alike_over : map part_of (components_of k.entries) ≡ map part_of (components_of g.core.entries)
    alike_over = changed_alike g k a r I M T (λ w. w) (components_of g.core.entries) g.parts stay_over there_over (λ w s. s.parts)

    pub files_over : KeepsAllFiles g (record { core = k; parts = g.parts })
    files_over n = ap (option_and_then (file_at g)) (places_alike n (components_of k.entries) (components_of g.core.entries) alike_over)

    pub is_whole_over : first_due (look_of k) ≡ None → IsWhole progress (record { core = k; parts = g.parts })
    is_whole_over closed = changed_is_whole g k a r I M T (λ w. w) (components_of g.core.entries) g.parts stay_over there_over (λ w s. s.parts) closed I.count I.parts

  -- an act that is a step of the worlds that meet a condition, and one such world
  module _ (g : Shown S K C) (k : Entries C) (a : Act) (r : Reply) (l : LeavesParts a r) (I : IsWhole progress g) (M : (w : World) → HandsIn w a)
      (Condition : World → Type 0) (T : StepsBareWhere (core.kept progress g.core) (core.kept progress k) Condition (λ w v. Step w a r v)) where
    pub whole_where : StepsWhere (kept progress g) (kept progress (record { core = k; parts = g.parts })) Condition (λ w v. Step w a r v)
    whole_where w s m =
        let B = bare g w s in
        let x = T w B m in
        (x.0, whole (record { core = k; parts = g.parts }) x.0 x.1 (has_parts_stay (seen_parts g.parts) w x.0 (step_stays w (sound_in g I w B) a r x.0 (M w) l x.2) s.parts), x.2)

    module _ (u : World) (U : Stands (kept progress g) u) (m : Condition u) where
      alike_where : map part_of (components_of k.entries) ≡ map part_of (components_of g.core.entries)
      alike_where =
          let B = bare g u U in
          let x = T u B m in
          ap (λ (y : Look). map part_of y.components) (sym x.1.looks) ∙ ((step_stays u (sound_in g I u B) a r x.0 (M u) l x.2).parts ∙ ap (λ (y : Look). map part_of y.components) B.looks)

      pub files_where : KeepsAllFiles g (record { core = k; parts = g.parts })
      files_where n = ap (option_and_then (file_at g)) (places_alike n (components_of k.entries) (components_of g.core.entries) alike_where)

      pub is_whole_where : first_due (look_of k) ≡ None → IsWhole progress (record { core = k; parts = g.parts })
      is_whole_where closed =
          let x = whole_where u U m in
          record {
            closed = closed;
            count = I.count ∙ count_alike (components_of g.core.entries) (components_of k.entries) alike_where;
            parts = parts_alike (components_of g.core.entries) (components_of k.entries) g.parts alike_where I.parts;
            worlds = record { world = x.0; stands = x.1; sound = sound_after u x.0 a r (M u) x.2 (sound_in g I u (bare g u U)) };
          }
