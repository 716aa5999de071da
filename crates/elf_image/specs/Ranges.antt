-- Ranges of addresses, those of segments and guests among them.
use Rattle.std.specs.Prelude.{ℕ, ◌+◌, ◌&&◌, Bool, nat_lt, List, ◌++◌, length, map}
use Rattle.elf_image.specs.declared.address_range.AddressRange.{AddressRange}
use Rattle.elf_image.specs.declared.segment.Segment.{Segment}
use Rattle.elf_image.specs.declared.guests.Guest.{Guest}

-- the first address after a range
abbrev pub end_of : AddressRange → ℕ
end_of a = a.at + a.size

-- some address lies in both ranges
abbrev pub meets : AddressRange → AddressRange → Bool
meets a b = nat_lt 0 a.size && nat_lt 0 b.size && nat_lt a.at (end_of b) && nat_lt b.at (end_of a)

-- a range has an address at the end of RAM or behind it
abbrev pub leaves : AddressRange → AddressRange → Bool
leaves a ram = nat_lt 0 a.size && nat_lt (end_of ram) (end_of a)

abbrev pub segment_range : Segment → AddressRange
segment_range s = record { at = s.at; size = s.size }

abbrev pub guest_range : Guest → AddressRange
guest_range g = record { at = g.at; size = length g.bytes }

-- the ranges of segments, and then those of guests
abbrev pub ranges_of : List Segment → List Guest → List AddressRange
ranges_of segments guests = map segment_range segments ++ map guest_range guests
