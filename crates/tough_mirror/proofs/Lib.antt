mod RelativeNames
mod AskedNames
mod LatestFiles
mod SameAnswers
mod Replaced
mod TimestampLast
