-- What calls on buffers are refused for, test by test.
use Rattle.std.proofs.Common.{◌≡◌, ℕ, ◌≤◌, Bool, true, false, not, ◌&&◌, ◌||◌, nat_eq, [], ◌∷◌, Option, Some, refl, sym, arith}
use Rattle.std.proofs.Math.Bool.{not-not}
use Rattle.std.proofs.lemmas.Bool.Decides.{nat_tests}
use Rattle.omx_types.specs.declared.error.OmxError.TheVariants as errors
use Rattle.omx_types.specs.declared.format.Format.{Format}
use Rattle.omx_types.specs.declared.format.Format.TheVariants.{Pcm, Alaw, Mulaw, Auto}
use Rattle.omx_types.specs.Formats.{frame_bytes_of}
use Rattle.il_machine.specs.declared.port.Port.{Port}
use Rattle.il_machine.specs.declared.header.HeaderState.{HeaderState}
use Rattle.il_machine.specs.Headers.{is_for}
use Rattle.il_machine.specs.Room.{room}
use Rattle.il_machine.specs.Lists.{first_of_these}
use Rattle.il_machine.specs.Look.{Look}
use Rattle.il_machine.specs.Ports.{accepting, is_joined}
use Rattle.il_machine.specs.Settings.{is_within_limits}
use Rattle.il_machine.specs.Sound.{IsSound}
use Rattle.il_machine.specs.States.{is_invalid}
use Rattle.il_machine.specs.World.{Component, port_of}
use Rattle.il_machine.specs.Buffers.{allocate_refusal, use_refusal, free_buffer_refusal, is_unpopulating, has_no_block, has_no_number, is_bad_length}
use Rattle.machine_laws.proofs.Facts.{port_limits}

-- no number is left where the test for one fails
pub numberless : (l : Look) (left : Bool) → left ≡ not (has_no_number l) → has_no_number l ≡ not left
numberless l left e = rw e (sym (not-not (has_no_number l)))

pub allocate_at : (l : Look) (c : Component) (o : Option Port) (p : Port) (b d f : Bool) → is_invalid c.state ≡ false → o ≡ Some p → is_joined p ≡ b → accepting l.headers c p ≡ d → (has_no_block l.headers || has_no_number l) ≡ f
    → allocate_refusal l c o ≡ first_of_these ((b, errors.BadParameter) ∷ (not d, errors.IncorrectStateOperation) ∷ (f, errors.InsufficientResources) ∷ [])
allocate_at l c o p b d f a q x y z = rw (a, q, x, y, z) refl

pub use_at : (l : Look) (c : Component) (o : Option Port) (bytes : ℕ) (p : Port) (b d f : Bool) → is_invalid c.state ≡ false → o ≡ Some p → (is_joined p || is_bad_length bytes p) ≡ b → accepting l.headers c p ≡ d → has_no_number l ≡ f
    → use_refusal l c o bytes ≡ first_of_these ((b, errors.BadParameter) ∷ (not d, errors.IncorrectStateOperation) ∷ (f, errors.InsufficientResources) ∷ [])
use_at l c o bytes p b d f a q x y z = rw (a, q, x, y, z) refl

pub free_at : (c : Component) (o : Option Port) (p : Port) (s : HeaderState) (b : Bool) → o ≡ Some p → is_for p.key s ≡ true → (is_unpopulating c p && nat_eq (room c) 0) ≡ b → free_buffer_refusal c o s ≡ first_of_these ((b, errors.NotReady) ∷ [])
free_at c o p s b q x y = rw (q, x, y) refl

some_frame : (f : Format) → is_within_limits f ≡ true → 1 ≤ frame_bytes_of f
some_frame (Pcm rate channels) h = grind (arith, nat_tests)
some_frame (Alaw rate channels) h = grind (arith, nat_tests)
some_frame (Mulaw rate channels) h = grind (arith, nat_tests)
some_frame Auto h = omega arith

pub frame_some : (c : Component) (index : ℕ) (p : Port) → IsSound c → port_of c index ≡ Some p → 1 ≤ frame_bytes_of p.setting.definition.format
frame_some c index p S here = some_frame p.setting.definition.format (port_limits c index p S here).limits

pub frame_few : (c : Component) (index : ℕ) (p : Port) → IsSound c → port_of c index ≡ Some p → frame_bytes_of p.setting.definition.format ≤ 4096
frame_few c index p S here = let D = port_limits c index p S here in let a = D.frame in let b = D.most_size in omega arith
