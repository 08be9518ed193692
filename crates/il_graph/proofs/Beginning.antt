-- A graph with no component.
use Rattle.std.proofs.Common.{◌≡◌, [], List, refl, ◌∙◌, ap}
use Rattle.il_machine.specs.declared.answer.Progress.{Progress}
use Rattle.il_machine.specs.Look.{Look}
use Rattle.graph_core.specs.Entries.{Entries, components_of, look_of}
use Rattle.graph_core.specs.Entries as core
use Rattle.graph_core.specs.Standing.{SoundWorld}
use Rattle.il_component.specs.Entries.{Entry}
use Rattle.il_graph.specs.Shown.{IsWhole}

pub begins : {S K C : Type 0} (progress : C → Progress) (g : Entries C) → g.entries ≡ [] → SoundWorld (core.kept progress g) → IsWhole {S = S} {K = K} progress (record { core = g; parts = [] })
begins {C = C} progress g e W =
    let none : components_of g.entries ≡ [] = ap (λ (es : List (Entry C)). components_of es) e in
    record {
      closed = rw e refl;
      count = rw e refl;
      parts = record { there = λ i c at out. absurd (let z = rw none at at in cc); away = λ i c at out. absurd (let z = rw none at at in cc) };
      worlds = record {
        world = W.world;
        stands = record {
          looks = W.stands.looks;
          loads = W.stands.loads;
          noticed = W.stands.noticed;
          progress = W.stands.progress;
          parts = λ i c s at out st. absurd (let z = rw (ap (λ (l : Look). l.components) W.stands.looks ∙ none) at at in cc);
          streams = W.stands.streams;
          once = W.stands.once;
          given = W.stands.given;
        };
        sound = W.sound;
      };
    }
