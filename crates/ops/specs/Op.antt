-- The opcodes by name: docs/OPCODES.md. Assumes nothing.
use Rattle.std.specs.Prelude.{ℕ}

abbrev pub LoadConst : ℕ
LoadConst = 2

abbrev pub LoadName : ℕ
LoadName = 4

abbrev pub StoreName : ℕ
StoreName = 6

abbrev pub Call : ℕ
Call = 8

abbrev pub PopTop : ℕ
PopTop = 10

abbrev pub ReturnValue : ℕ
ReturnValue = 12

abbrev pub BuildString : ℕ
BuildString = 14

abbrev pub CallPrint : ℕ
CallPrint = 16

abbrev pub CallLen : ℕ
CallLen = 18

abbrev pub FormatValue : ℕ
FormatValue = 20

abbrev pub CallAbs : ℕ
CallAbs = 22

abbrev pub Minus : ℕ
Minus = 24

abbrev pub CallStr : ℕ
CallStr = 26

abbrev pub CallInt : ℕ
CallInt = 28

abbrev pub CallRange : ℕ
CallRange = 30

abbrev pub Phi : ℕ
Phi = 32

abbrev pub CallChr : ℕ
CallChr = 34

abbrev pub CallType : ℕ
CallType = 36

abbrev pub MakeFunction : ℕ
MakeFunction = 38

abbrev pub Add : ℕ
Add = 40

abbrev pub Sub : ℕ
Sub = 42

abbrev pub Mul : ℕ
Mul = 44

abbrev pub Div : ℕ
Div = 46

abbrev pub Eq : ℕ
Eq = 48

abbrev pub CallFloat : ℕ
CallFloat = 50

abbrev pub CallBool : ℕ
CallBool = 52

abbrev pub CallRound : ℕ
CallRound = 54

abbrev pub CallMin : ℕ
CallMin = 56

abbrev pub CallMax : ℕ
CallMax = 58

abbrev pub CallSum : ℕ
CallSum = 60

abbrev pub CallEnumerate : ℕ
CallEnumerate = 62

abbrev pub CallZip : ℕ
CallZip = 64

abbrev pub CallList : ℕ
CallList = 66

abbrev pub CallTuple : ℕ
CallTuple = 68

abbrev pub CallDict : ℕ
CallDict = 70

abbrev pub CallIsInstance : ℕ
CallIsInstance = 72

abbrev pub CallSet : ℕ
CallSet = 74

abbrev pub CallInput : ℕ
CallInput = 76

abbrev pub CallOrd : ℕ
CallOrd = 78

abbrev pub BuildDict : ℕ
BuildDict = 80

abbrev pub BuildList : ℕ
BuildList = 82

abbrev pub NotEq : ℕ
NotEq = 84

abbrev pub Lt : ℕ
Lt = 86

abbrev pub Gt : ℕ
Gt = 88

abbrev pub LtEq : ℕ
LtEq = 90

abbrev pub GtEq : ℕ
GtEq = 92

abbrev pub Not : ℕ
Not = 94

abbrev pub JumpIfFalse : ℕ
JumpIfFalse = 96

abbrev pub Jump : ℕ
Jump = 98

abbrev pub GetIter : ℕ
GetIter = 100

abbrev pub ForIter : ℕ
ForIter = 102

abbrev pub GetItem : ℕ
GetItem = 104

abbrev pub Mod : ℕ
Mod = 106

abbrev pub Pow : ℕ
Pow = 108

abbrev pub FloorDiv : ℕ
FloorDiv = 110

abbrev pub LoadTrue : ℕ
LoadTrue = 112

abbrev pub LoadFalse : ℕ
LoadFalse = 114

abbrev pub LoadNone : ℕ
LoadNone = 116

abbrev pub LoadAttr : ℕ
LoadAttr = 118

abbrev pub StoreAttr : ℕ
StoreAttr = 120

abbrev pub BuildSlice : ℕ
BuildSlice = 122

abbrev pub SetupExcept : ℕ
SetupExcept = 124

abbrev pub PopExcept : ℕ
PopExcept = 126

abbrev pub Raise : ℕ
Raise = 128

abbrev pub BitAnd : ℕ
BitAnd = 130

abbrev pub BitOr : ℕ
BitOr = 132

abbrev pub BitXor : ℕ
BitXor = 134

abbrev pub BitNot : ℕ
BitNot = 136

abbrev pub Shl : ℕ
Shl = 138

abbrev pub Shr : ℕ
Shr = 140

abbrev pub In : ℕ
In = 142

abbrev pub NotIn : ℕ
NotIn = 144

abbrev pub Is : ℕ
Is = 146

abbrev pub IsNot : ℕ
IsNot = 148

abbrev pub UnpackSequence : ℕ
UnpackSequence = 150

abbrev pub BuildTuple : ℕ
BuildTuple = 152

abbrev pub WithEnter : ℕ
WithEnter = 154

abbrev pub WithExit : ℕ
WithExit = 156

abbrev pub Yield : ℕ
Yield = 158

abbrev pub SetupFinally : ℕ
SetupFinally = 160

abbrev pub BeginFinally : ℕ
BeginFinally = 162

abbrev pub EndFinally : ℕ
EndFinally = 164

abbrev pub Del : ℕ
Del = 166

abbrev pub Assert : ℕ
Assert = 168

abbrev pub UnpackArgs : ℕ
UnpackArgs = 170

abbrev pub ListAppend : ℕ
ListAppend = 172

abbrev pub SetAdd : ℕ
SetAdd = 174

abbrev pub MapAdd : ℕ
MapAdd = 176

abbrev pub BuildSet : ℕ
BuildSet = 178

abbrev pub LoadEllipsis : ℕ
LoadEllipsis = 180

abbrev pub MakeCoroutine : ℕ
MakeCoroutine = 182

abbrev pub StoreItem : ℕ
StoreItem = 184

abbrev pub Dup2 : ℕ
Dup2 = 186

abbrev pub JumpIfFalseOrPop : ℕ
JumpIfFalseOrPop = 188

abbrev pub JumpIfTrueOrPop : ℕ
JumpIfTrueOrPop = 190

abbrev pub Dup : ℕ
Dup = 1

abbrev pub CallMethod : ℕ
CallMethod = 3

abbrev pub CallMethodArgs : ℕ
CallMethodArgs = 5

abbrev pub CallAll : ℕ
CallAll = 7

abbrev pub CallAny : ℕ
CallAny = 9

abbrev pub CallBin : ℕ
CallBin = 11

abbrev pub CallOct : ℕ
CallOct = 13

abbrev pub CallHex : ℕ
CallHex = 15

abbrev pub CallDivmod : ℕ
CallDivmod = 17

abbrev pub CallPow : ℕ
CallPow = 19

abbrev pub CallRepr : ℕ
CallRepr = 21

abbrev pub CallReversed : ℕ
CallReversed = 23

abbrev pub PopIter : ℕ
PopIter = 25

abbrev pub DelItem : ℕ
DelItem = 27

abbrev pub DelAttr : ℕ
DelAttr = 29

abbrev pub DictUpdate : ℕ
DictUpdate = 31

abbrev pub SetUpdate : ℕ
SetUpdate = 33

abbrev pub ListExtend : ℕ
ListExtend = 35

abbrev pub MatchSeq : ℕ
MatchSeq = 37

abbrev pub InPlaceAdd : ℕ
InPlaceAdd = 39

abbrev pub InPlaceSub : ℕ
InPlaceSub = 41

abbrev pub LoadYieldFrom : ℕ
LoadYieldFrom = 43

abbrev pub BeginArgs : ℕ
BeginArgs = 45

abbrev pub WithJudge : ℕ
WithJudge = 47

abbrev pub Swap : ℕ
Swap = 49

abbrev pub MatchClass : ℕ
MatchClass = 51

abbrev pub MatchMap : ℕ
MatchMap = 53

abbrev pub CallSpread : ℕ
CallSpread = 55

abbrev pub Move : ℕ
Move = 57

abbrev pub PushRegs : ℕ
PushRegs = 59

abbrev pub AddR : ℕ
AddR = 61

abbrev pub SubR : ℕ
SubR = 63

abbrev pub MulR : ℕ
MulR = 65

abbrev pub DivR : ℕ
DivR = 67

abbrev pub ModR : ℕ
ModR = 69

abbrev pub FloorDivR : ℕ
FloorDivR = 71

abbrev pub InPlaceAddR : ℕ
InPlaceAddR = 73

abbrev pub InPlaceSubR : ℕ
InPlaceSubR = 75

abbrev pub BitAndR : ℕ
BitAndR = 77

abbrev pub BitOrR : ℕ
BitOrR = 79

abbrev pub BitXorR : ℕ
BitXorR = 81

abbrev pub ShlR : ℕ
ShlR = 83

abbrev pub ShrR : ℕ
ShrR = 85

abbrev pub PowR : ℕ
PowR = 87

abbrev pub EqR : ℕ
EqR = 89

abbrev pub NotEqR : ℕ
NotEqR = 91

abbrev pub LtR : ℕ
LtR = 93

abbrev pub LtEqR : ℕ
LtEqR = 95

abbrev pub GtR : ℕ
GtR = 97

abbrev pub GtEqR : ℕ
GtEqR = 99

abbrev pub MinusR : ℕ
MinusR = 101

abbrev pub NotR : ℕ
NotR = 103

abbrev pub JumpIfFalseR : ℕ
JumpIfFalseR = 105

abbrev pub ReturnR : ℕ
ReturnR = 107

abbrev pub GetItemR : ℕ
GetItemR = 109

abbrev pub StoreItemR : ℕ
StoreItemR = 111

abbrev pub GetAttrR : ℕ
GetAttrR = 113

abbrev pub SetAttrR : ℕ
SetAttrR = 115

abbrev pub LoadGlobalR : ℕ
LoadGlobalR = 117

abbrev pub StoreGlobalR : ℕ
StoreGlobalR = 119

abbrev pub LoadCellR : ℕ
LoadCellR = 121

abbrev pub StoreCellR : ℕ
StoreCellR = 123

abbrev pub InR : ℕ
InR = 125

abbrev pub NotInR : ℕ
NotInR = 127

abbrev pub IsR : ℕ
IsR = 129

abbrev pub IsNotR : ℕ
IsNotR = 131

abbrev pub LenR : ℕ
LenR = 133

abbrev pub ListAppendR : ℕ
ListAppendR = 135

abbrev pub SetAddR : ℕ
SetAddR = 137

abbrev pub MapAddR : ℕ
MapAddR = 139

abbrev pub UnpackR : ℕ
UnpackR = 141

abbrev pub StoreTopR : ℕ
StoreTopR = 143

abbrev pub ForIterR : ℕ
ForIterR = 145

abbrev pub JumpUnlessEq : ℕ
JumpUnlessEq = 147

abbrev pub JumpUnlessNotEq : ℕ
JumpUnlessNotEq = 149

abbrev pub JumpUnlessLt : ℕ
JumpUnlessLt = 151

abbrev pub JumpUnlessLtEq : ℕ
JumpUnlessLtEq = 153

abbrev pub JumpUnlessGt : ℕ
JumpUnlessGt = 155

abbrev pub JumpUnlessGtEq : ℕ
JumpUnlessGtEq = 157

abbrev pub CallR : ℕ
CallR = 159

abbrev pub CallMethodR : ℕ
CallMethodR = 161

abbrev pub ArgsR : ℕ
ArgsR = 163

abbrev pub AppendR : ℕ
AppendR = 165

abbrev pub OwnResetR : ℕ
OwnResetR = 167

abbrev pub CallGlobalR : ℕ
CallGlobalR = 169

abbrev pub CallSectionR : ℕ
CallSectionR = 171

abbrev pub SectionR : ℕ
SectionR = 173

abbrev pub LoadGlobalAtR : ℕ
LoadGlobalAtR = 175

abbrev pub StoreGlobalAtR : ℕ
StoreGlobalAtR = 177

abbrev pub UnbindR : ℕ
UnbindR = 179

abbrev pub SuperR : ℕ
SuperR = 181

abbrev pub WrapCellR : ℕ
WrapCellR = 183

abbrev pub CallValueR : ℕ
CallValueR = 185

abbrev pub CallSpreadR : ℕ
CallSpreadR = 187

abbrev pub ListPushR : ℕ
ListPushR = 189

-- the last opcode
abbrev pub last : ℕ
last = 190
