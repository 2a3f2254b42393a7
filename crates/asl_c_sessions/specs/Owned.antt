-- What a slot owns: a box of a session, or nothing.
use Rattle.std.specs.Prelude.{Bool, true, false, []}
use base.Fml.{Fml, ftrue}
use base.Stored.{Coded}
use denote.RawPtr.{Ptr}
use Rattle.std.specs.Box.Ownership.{box_owns}
use Rattle.std.specs.declared.alloc.Global.{Global}
use Rattle.std.specs.contracts.impls.GlobalAllocator.TheImpl.{ghosts}
use Rattle.asl_debugger.specs.Session.{Session}
use Rattle.asl_c_sessions.specs.contracts.session.Session.{the_row}

-- what contracts see of the session in a slot's box: the values by which they see a `Session`
abbrev pub Kept : Type 0
Kept = (the_row).Denot

-- how these values are coded, which a slot's ghost field needs: as the row of `Session` says
abbrev pub coded_kept : Coded Kept
coded_kept = (the_row).coded

-- what a slot says of a session while it owns none: nothing that counts
abbrev pub no_session : Session
no_session = record {
  image = record { version = 0; classes = 0; globals = []; functions = []; start = 0; code = []; lists = [] };
  log = record { threads = 0; events = [] };
  position = 0;
  breakpoints = [];
}

-- a box of a session, if it owns one
abbrev pub slot_owns : Bool → Global → Ptr → Kept → Fml
slot_owns true alloc p session = box_owns (ghosts.dealloc_token alloc) the_row p session
slot_owns false alloc p session = ftrue
