-- One value of each struct, with its fields numbered from 1 on.
-- code: fz_c/src/world/samples.rt
use Rattle.std.specs.Prelude.{true}
use Rattle.fz_c.specs.declared.old.Old.{Old}
use Rattle.fz_c.specs.declared.world.samples.Samples.{Samples}

abbrev pub first_two : Old
first_two = record { proc = 1; cd = 2; was = true }

abbrev pub sample : Samples
sample =
    record {
      slot = record { frame = 1; slot = 2 };
      made = record { address = 1; birth = 2 };
      replaced = first_two;
      registered = record { number = 1; replaced = first_two; made = true };
      passed = record { pass = 1; picked = 2; reclaimed = 3 };
      entry = record { seq = 1; pass = 2; reg = 3; obj = 4; birth = 5; proc = 6; cd = 7 };
      object = record { start = 1; size = 2; birth = 3; atomic = true };
      registration = record { object = 1; number = 2; proc = 3; cd = 4; kind = 5; rank = 6 };
      linked = record { place = 1; target = 2 };
      counts = record { passes = 1; reclaimed = 2; queued = 3; taken = 4; outstanding = 5; scans = 6; noted = 7 };
    }
