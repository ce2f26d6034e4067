-- Spans and ends of code as the definition has them.
use Rattle.std.specs.Prelude.{List, map}
use Rattle.pm_cutter.specs.declared.span.Span.{Span}
use Rattle.pm_cutter.specs.declared.span.Ended.{Ended}
use Rattle.pm_cutter.specs.declared.span.Ended.TheVariants as ended
use Rattle.pm_cutter.specs.Cutting.{Part, End, clean, last, rest}

abbrev pub part_of : Span → Part
part_of s = record { offset = s.offset; text = s.text }

abbrev pub parts_of : List Span → List Part
parts_of spans = map part_of spans

abbrev pub end_from : Ended → End
end_from ended.Clean = clean
end_from (ended.Last s) = last (part_of s)
end_from (ended.Rest at) = rest at
