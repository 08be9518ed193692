-- What the lines of a history name.
use Rattle.std.proofs.Common.{◌≡◌, inl, ℕ, ◌^◌, ◌<◌, not, List, [], ◌∷◌, All, length, subst}
use Rattle.std.proofs.lemmas.List.Elements.{All-head, All-tail, All-filter}
use Rattle.il_machine.specs.World.{World}
use Rattle.il_machine.specs.Due.{IsClosed}
use Rattle.il_machine.specs.Run.{Run}
use Rattle.il_machine.specs.Sound.{Sound}
use Rattle.play_log.specs.Entries.{Entry, is_unprinted, printed, steps_of}
use Rattle.play_log.specs.Lines.{LogLine}
use Rattle.play_log.specs.Logged.{AllSay, IsLogged}
use Rattle.play_log.specs.Naming.{AreTelling, IsNaming, IsUnbroken, NameAll}
use Rattle.play_log.specs.Scenes.{Scene, HaveOwnNames}
use Rattle.play_log.proofs.Same.{names_same}
use Rattle.play_log.proofs.TextLines.{one_list}
use Rattle.play_log.proofs.Unprinted.{printed_run}

-- ---- a history's lines name its entries

pub names_of_run : (s : Scene) (w : World) (lines : List LogLine) (entries : List Entry) (v : World) → AllSay s lines entries → Run w (steps_of entries) v → All (λ e. IsUnbroken e.act) entries → NameAll s w lines entries v
names_of_run s w [] [] v S h U = h
names_of_run s w [] (entry ∷ entries) v S h U = absurd S
names_of_run s w (line ∷ lines) [] v S h U = absurd S
names_of_run s w (line ∷ lines) (entry ∷ entries) v S h U = (
  record { says = S.0; meets = h.1; unbroken = All-head (λ (e : Entry). IsUnbroken e.act) entry entries U },
  (h.0, h.2, names_of_run s h.0 lines entries v S.1 h.3 (All-tail (λ (e : Entry). IsUnbroken e.act) entry entries U)),
)

pub run_of_names : (s : Scene) (w : World) (lines : List LogLine) (entries : List Entry) (v : World) → NameAll s w lines entries v → Run w (steps_of entries) v
run_of_names s w [] [] v N = N
run_of_names s w [] (entry ∷ entries) v N = absurd N
run_of_names s w (line ∷ lines) [] v N = absurd N
run_of_names s w (line ∷ lines) (entry ∷ entries) v N =
    let step = N.1 in
    (step.0, (N.0).meets, step.1, run_of_names s step.0 lines entries v step.2)

pub logged_names : (s : Scene) (w v : World) (history : List Entry) (text : List ℕ) → Sound w → IsClosed w → Run w (steps_of history) v → All (λ e. IsUnbroken e.act) history → IsLogged s history text → IsNaming s w text (printed history) v
logged_names s w v history text S C h U L = record {
  lines = L.lines;
  has_lines = record { canonical = (L.of_history).canonical; whole = inl L.whole };
  name = names_of_run s w L.lines (printed history) v (L.of_history).say (printed_run w history v S C h)
      (All-filter (λ (e : Entry). not (is_unprinted e.reply)) (λ (e : Entry). IsUnbroken e.act) history U);
}

pub naming_runs : (s : Scene) (w v : World) (text : List ℕ) (entries : List Entry) → IsNaming s w text entries v → Run w (steps_of entries) v
naming_runs s w v text entries N = run_of_names s w N.lines entries v N.name

pub one_naming : (s : Scene) (w v u : World) (text : List ℕ) (entries others : List Entry) → HaveOwnNames s.parts → Sound w → AreTelling w → length text < 2 ^ 64 → IsNaming s w text entries v → IsNaming s w text others u → (others ≡ entries) × (u ≡ v)
one_naming s w v u text entries others own S T fits N M =
    let lines : M.lines ≡ N.lines = one_list text M.lines N.lines fits M.has_lines N.has_lines in
    names_same s own N.lines w entries others v u S T N.name (subst (λ (l : List LogLine). NameAll s w l others u) lines M.name)
