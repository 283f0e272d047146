-- How the table represents kinds: a registration of kind `Unreachable` is a normal one with a flag.
-- code: fz_finalizers/src/kinds.rt
use Rattle.std.specs.Prelude.{Bool, true, false, Some}
use Rattle.fz_model.specs.declared.kinds.RegKind.{RegKind}
use Rattle.fz_model.specs.declared.kinds.RegKind.TheVariants as table
use Rattle.fz_model.specs.declared.finalizer.Finalizer as model
use Rattle.fz_finalizers.specs.declared.kinds.Kind.{Kind}
use Rattle.fz_finalizers.specs.declared.kinds.Kind.TheVariants.{Normal, IgnoreSelf, NoOrder, Unreachable}
use Rattle.fz_finalizers.specs.declared.kinds.Finalizer.{Finalizer}

abbrev pub is_late : Kind → Bool
is_late Normal = false
is_late IgnoreSelf = false
is_late NoOrder = false
is_late Unreachable = true

abbrev pub table_kind : Kind → RegKind
table_kind Normal = table.Normal
table_kind IgnoreSelf = table.IgnoreSelf
table_kind NoOrder = table.NoOrder
table_kind Unreachable = table.Normal

-- the kind of a registration with this flag
abbrev pub of_table : Bool → RegKind → Kind
of_table true kind = Unreachable
of_table false table.Normal = Normal
of_table false table.IgnoreSelf = IgnoreSelf
of_table false table.NoOrder = NoOrder

abbrev pub table_finalizer : Finalizer → model.Finalizer
table_finalizer f = record { kind = table_kind f.kind; procedure = f.procedure; client_data = f.client_data; rank = Some f.rank }
