-- The six numbers of a refusal: its number, side (1 source, 2 destination), dimension (1 X, 2 Y, 3 Z), start, end and
-- limit; 0 where a refusal does not name one.
use Rattle.std.specs.Prelude.{ℕ}
use Rattle.refusals.specs.declared.CopySide.{CopySide}
use Rattle.refusals.specs.declared.CopySide.TheVariants.{Source, Destination}
use Rattle.refusals.specs.declared.TextureErrorDimension.{TextureErrorDimension}
use Rattle.refusals.specs.declared.TextureErrorDimension.TheVariants.{X, Y, Z}
use Rattle.refusals.specs.declared.Refusal.{Refusal}
use Rattle.refusals.specs.declared.TransferError.{TransferError}
use Rattle.refusals.specs.declared.TransferError.TheVariants as E

unfoldable pub side_of : CopySide → ℕ
side_of Source = 1
side_of Destination = 2

unfoldable pub dimension_number : TextureErrorDimension → ℕ
dimension_number X = 1
dimension_number Y = 2
dimension_number Z = 3

abbrev pub six : ℕ → ℕ → ℕ → ℕ → ℕ → ℕ → Refusal
six number side dimension start end limit =
    record { number = number; side = side; dimension = dimension; start = start; end = end; limit = limit }

unfoldable pub numbers_of : TransferError → Refusal
numbers_of E.InvalidSheetIndex = six 1 0 0 0 0 0
numbers_of (E.InvalidTextureRecord s) = six 2 (side_of s) 0 0 0 0
numbers_of (E.InvalidBufferRecord s) = six 3 (side_of s) 0 0 0 0
numbers_of E.SameSourceDestinationBuffer = six 4 0 0 0 0 0
numbers_of (E.MissingBufferUsage s) = six 5 (side_of s) 0 0 0 0
numbers_of (E.MissingTextureUsage s) = six 6 (side_of s) 0 0 0 0
numbers_of (E.BufferStartOffsetOverrun start size s) = six 7 (side_of s) 0 start 0 size
numbers_of (E.BufferEndOffsetOverrun start bytes size s) = six 8 (side_of s) 0 start bytes size
numbers_of (E.TextureOverrun start end size d s) = six 9 (side_of s) (dimension_number d) start end size
numbers_of (E.UnsupportedPartialTransfer format samples start end size d s) = six 10 (side_of s) (dimension_number d) start end size
numbers_of (E.InvalidCopyWithinSameTexture from to z z' layers) = six 11 0 0 z z' layers
numbers_of (E.InvalidTextureAspect format aspect) = six 12 0 0 0 0 0
numbers_of (E.InvalidTextureMipLevel level total) = six 13 0 0 level 0 total
numbers_of (E.UnalignedBufferOffset offset) = six 14 0 0 offset 0 0
numbers_of (E.UnalignedCopySize size) = six 15 0 0 size 0 0
numbers_of E.UnalignedCopyWidth = six 16 0 0 0 0 0
numbers_of E.UnalignedCopyHeight = six 17 0 0 0 0 0
numbers_of E.UnalignedCopyOriginX = six 18 0 0 0 0 0
numbers_of E.UnalignedCopyOriginY = six 19 0 0 0 0 0
numbers_of E.UnalignedBytesPerRow = six 20 0 0 0 0 0
numbers_of E.UnspecifiedBytesPerRow = six 21 0 0 0 0 0
numbers_of E.UnspecifiedRowsPerImage = six 22 0 0 0 0 0
numbers_of E.InvalidBytesPerRow = six 23 0 0 0 0 0
numbers_of E.InvalidRowsPerImage = six 24 0 0 0 0 0
numbers_of E.SizeOverflow = six 25 0 0 0 0 0
numbers_of E.CopySrcMissingAspects = six 26 0 0 0 0 0
numbers_of E.CopyDstMissingAspects = six 27 0 0 0 0 0
numbers_of E.CopyAspectNotOne = six 28 0 0 0 0 0
numbers_of (E.CopyFromForbiddenTextureFormat format) = six 29 0 0 0 0 0
numbers_of (E.CopyFromForbiddenTextureFormatAspect format aspect) = six 30 0 0 0 0 0
numbers_of (E.CopyToForbiddenTextureFormat format) = six 31 0 0 0 0 0
numbers_of (E.CopyToForbiddenTextureFormatAspect format aspect) = six 32 0 0 0 0 0
numbers_of (E.TextureFormatsNotCopyCompatible from to) = six 33 0 0 0 0 0
numbers_of (E.MissingDownlevelFlags flag) = six 34 0 0 0 0 0
numbers_of (E.InvalidSampleCount samples) = six 35 0 0 samples 0 0
numbers_of (E.SampleCountNotEqual samples samples') = six 36 0 0 samples samples' 0
-- 37, of a check that is never met, is not used
numbers_of E.RegionSliceTooShort = six 38 0 0 0 0 0
