-- The table of refusals: the number of each cause, and its words.
use Rattle.std.specs.Prelude.{ℕ, List, Ok, Err, codes, Result}
use Rattle.refusal.specs.declared.Refusal.{Refusal}
use Rattle.refusal.specs.declared.Refusal.TheVariants.{Length, Layout, CornerRows, Masks, Flats, MissingFlat, LooseCorner, RidgeRows, NoRoom, Unfit, OutOfRange, Unlisted}

abbrev pub number_of : Refusal → ℕ
number_of Length = 1
number_of Layout = 2
number_of CornerRows = 3
number_of Masks = 4
number_of Flats = 5
number_of MissingFlat = 6
number_of LooseCorner = 7
number_of RidgeRows = 8
number_of NoRoom = 9
number_of Unfit = 13
number_of OutOfRange = 14
number_of Unlisted = 16

-- what an answer tells: the value, or the number of the cause
abbrev pub told : {X : Type 0} → Result X Refusal → Result X ℕ
told (Ok x) = Ok x
told (Err e) = Err (number_of e)

abbrev pub words_of : Refusal → List ℕ
words_of Length = codes "a capture has 10 to 622 bytes"
words_of Layout = codes "the trailer does not fit the layout"
words_of CornerRows = codes "a corner is beyond reach or out of order"
words_of Masks = codes "a mask is out of order, too wide or has fewer than three corners"
words_of Flats = codes "a flat is not a plane with every other corner on one side"
words_of MissingFlat = codes "a flat is missing"
words_of LooseCorner = codes "a corner lies in fewer than three flats"
words_of RidgeRows = codes "the ridges are not those in which two flats meet"
words_of NoRoom = codes "the buffer is too short"
words_of Unfit = codes "a body is unfit"
words_of OutOfRange = codes "a number is not below its count, or a direction is beyond range"
words_of Unlisted = codes "a body has too many flats or ridges to list"
