-- The class of each byte, in ranges.
use Rattle.std.specs.Prelude.{ℕ, Bool, cond, ◌&&◌, ◌||◌, ◌==◌, nat_le, nat_lt}
use Rattle.classes.specs.declared.Mark.{Mark}
use Rattle.classes.specs.declared.Mark.TheVariants.{Less, Greater, Colon, Equals, Stop, Quote, Tick, Percent, Open, Close, Hash, Dollar, LeftBrace, RightBrace}
use Rattle.classes.specs.declared.ByteClass.{ByteClass}
use Rattle.classes.specs.declared.ByteClass.TheVariants.{Blank, Bad, Mark as Marked, Capital, Plain}

-- tab, line feed, carriage return and space
abbrev pub blank : ℕ → Bool
blank b = b == 9 || (b == 10 || (b == 13 || b == 32))

-- the control bytes: below 32, and 127
abbrev pub control : ℕ → Bool
control b = nat_lt b 32 || b == 127

-- A to Z
abbrev pub capital : ℕ → Bool
capital b = nat_le 65 b && nat_le b 90

abbrev unmarked : ℕ → ByteClass
unmarked b = cond (capital b) Capital Plain

-- < > : = . " ' % ( ) # $ { }
abbrev pub printed : ℕ → ByteClass
printed b =
    cond (b == 60) (Marked Less) (cond (b == 62) (Marked Greater) (cond (b == 58) (Marked Colon) (cond (b == 61) (Marked Equals)
    (cond (b == 46) (Marked Stop) (cond (b == 34) (Marked Quote) (cond (b == 39) (Marked Tick) (cond (b == 37) (Marked Percent)
    (cond (b == 40) (Marked Open) (cond (b == 41) (Marked Close) (cond (b == 35) (Marked Hash) (cond (b == 36) (Marked Dollar)
    (cond (b == 123) (Marked LeftBrace) (cond (b == 125) (Marked RightBrace) (unmarked b))))))))))))))

abbrev pub class_of : ℕ → ByteClass
class_of b = cond (blank b) Blank (cond (control b) Bad (printed b))

-- the byte of each mark
abbrev pub mark_byte : Mark → ℕ
mark_byte Less = 60
mark_byte Greater = 62
mark_byte Colon = 58
mark_byte Equals = 61
mark_byte Stop = 46
mark_byte Quote = 34
mark_byte Tick = 39
mark_byte Percent = 37
mark_byte Open = 40
mark_byte Close = 41
mark_byte Hash = 35
mark_byte Dollar = 36
mark_byte LeftBrace = 123
mark_byte RightBrace = 125
