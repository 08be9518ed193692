-- A call that isn't refused has its port, and a class of the name.
use Rattle.std.proofs.Common.{◌≡◌, ℕ, Bool, ◌||◌, List, Option, Some, None, is_none, if◌then◌else◌, refl}
use Rattle.omx_types.specs.declared.kind.Kind.{Kind}
use Rattle.il_machine.specs.declared.header.HeaderState.{HeaderState}
use Rattle.il_machine.specs.declared.port.Port.{Port}
use Rattle.il_machine.specs.World.{Component}
use Rattle.il_machine.specs.States.{is_invalid}
use Rattle.il_machine.specs.Headers.{Seen}
use Rattle.il_machine.specs.Kinds.{kind_of}
use Rattle.il_machine.specs.Look.{Look}
use Rattle.il_machine.specs.Components.{get_handle_refusal, is_bad_name}
use Rattle.il_machine.specs.Buffers.{allocate_refusal, use_refusal, free_buffer_refusal, empty_refusal, fill_refusal}
use Rattle.il_machine.specs.Tunnels.{setup_refusal, drop_refusal}
use Rattle.machine_laws.proofs.Accepting.{passed}

abbrev pub IsThere : {A : Type 0} → Option A → Type 0
IsThere {A} o = (x : A) × (o ≡ Some x)

pub allocate_port : (l : Look) (c : Component) (o : Option Port) → allocate_refusal l c o ≡ None → IsThere o
allocate_port l c None e = let q = (passed (is_invalid c.state) _ _ e).1 in absurd cc
allocate_port l c (Some p) e = (p, refl)

pub use_port : (l : Look) (c : Component) (o : Option Port) (bytes : ℕ) → use_refusal l c o bytes ≡ None → IsThere o
use_port l c None bytes e = let q = (passed (is_invalid c.state) _ _ e).1 in absurd cc
use_port l c (Some p) bytes e = (p, refl)

pub free_port : (c : Component) (o : Option Port) (s : HeaderState) → free_buffer_refusal c o s ≡ None → IsThere o
free_port c None s e = absurd cc
free_port c (Some p) s e = (p, refl)

pub empty_port : (c : Component) (o : Option Port) (s : HeaderState) (content : List ℕ) → empty_refusal c o s content ≡ None → IsThere o
empty_port c None s content e = let q = (passed (is_invalid c.state) _ _ e).1 in absurd cc
empty_port c (Some p) s content e = (p, refl)

pub fill_port : (c : Component) (o : Option Port) (s : HeaderState) → fill_refusal c o s ≡ None → IsThere o
fill_port c None s e = let q = (passed (is_invalid c.state) _ _ e).1 in absurd cc
fill_port c (Some p) s e = (p, refl)

pub setup_ports : (headers : Seen) (c d : Component) (o u : Option Port) → setup_refusal headers c d o u ≡ None → IsThere o × IsThere u
setup_ports headers c d None u e = let q = (passed (is_invalid c.state || is_invalid d.state) _ _ e).1 in absurd cc
setup_ports headers c d (Some p) None e = let q = (passed (is_invalid c.state || is_invalid d.state) _ _ e).1 in absurd cc
setup_ports headers c d (Some p) (Some q) e = ((p, refl), (q, refl))

pub drop_ports : (headers : Seen) (o u : Option Port) → drop_refusal headers o u ≡ None → IsThere o × IsThere u
drop_ports headers None u e = absurd cc
drop_ports headers (Some p) None e = absurd cc
drop_ports headers (Some p) (Some q) e = ((p, refl), (q, refl))

kind_there : {E : Type 0} (b : Bool) (o : Option Kind) (x y : E) (rest : Option E) → (if b then Some x else (if is_none o then Some y else rest)) ≡ None → IsThere o
kind_there b None x y rest e = let q = (passed b _ _ e).1 in absurd cc
kind_there b (Some kind) x y rest e = (kind, refl)

pub name_kind : (l : Look) (name : List ℕ) → get_handle_refusal l name ≡ None → IsThere (kind_of name)
name_kind l name e = kind_there (is_bad_name name) (kind_of name) _ _ _ e
